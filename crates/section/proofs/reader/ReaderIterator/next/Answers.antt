-- `section::Reader::next` meets its contract. Assumes nothing.
use Rattle.std.proofs.Common.{◌≡◌, refl, ℕ, ◌<◌, ◌≤◌, List, length, ap, arith}
use Rattle.section.specs.Section.{opening_of}
use Rattle.section.specs.declared.Opened.{Opened}
use Rattle.section.proofs.Places.{next_left, none_left_there, steps_before, steps_at_end}
use Rattle.section.proofs.reader.ReaderIterator.next.Goals as goal

-- a place, by the count that the section was opened to
module _ (s : List ℕ) (place : ℕ) {o : Opened} (is : o ≡ opening_of s) where
  before : place < o.count → place < (opening_of s).count
  before h = omega (arith, ap (λ (x : Opened). x.count) is)

  over : o.count ≤ place → (opening_of s).count ≤ place
  over h = omega (arith, ap (λ (x : Opened). x.count) is)

pub returns-then-place-self-clause-steps : goal.returns-then-place-self-clause-steps
returns-then-place-self-clause-steps c =
    let r = c.args.self.now in
    let here = before r.bytes.now r.place r.is c.if-place-self.true in
    rw c.read.ensures (next_left r.bytes.now r.place here, steps_before r.bytes.now r.place here, refl)

pub returns-then-place-self-clause-goes : goal.returns-then-place-self-clause-goes
returns-then-place-self-clause-goes c =
    let r = c.args.self.now in
    let less = ap length (next_left r.bytes.now r.place (before r.bytes.now r.place r.is c.if-place-self.true)) in
    record { on = λ _. (tt, tt, omega (arith, less)); keeps = tt; rests = λ _. tt }

pub returns-else-place-self-clause-steps : goal.returns-else-place-self-clause-steps
returns-else-place-self-clause-steps c =
    let r = c.args.self.now in
    let end = over r.bytes.now r.place r.is c.if-place-self.false in
    let none = none_left_there r.bytes.now r.place end in
    ((none, none), steps_at_end r.bytes.now r.place end, refl)
