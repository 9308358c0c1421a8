-- `callers::replace_at` meets its contract. Assumes nothing.
use mathlib.Core.Path.{◌≡◌, refl, ap, ◌∙◌}
use mathlib.Core.List.{List}
use Prim.Native.Nat.{ℕ, ◌+◌, ◌*◌, ◌^◌, ◌<◌}
use native.Mathlib.Omega.{arith}
use lib.ListN.{length}
use Rattle.text.specs.Text.{written}
use Rattle.section.specs.Section.{opening_of, here_of}
use Rattle.section.specs.Replaced.{replaced_of}
use Rattle.section.specs.declared.Opened.{Opened}
use Rattle.section.proofs.Accepted as accepted
use Rattle.callers_index.specs.Entries.{entries_of, numbers_of, update_of}
use Rattle.callers_index.specs.declared.Entry.{Entry}
use Rattle.std.specs.Prelude.{Option}
use Rattle.callers.specs.Calls.{callee_here}
use Rattle.callers.specs.Index.{updated_of}
use Rattle.callers.proofs.Answers.{many, few, updates_none, updates}
use Rattle.callers.proofs.replace_at.Goals as goal

-- the address of a place fits
addressed : (s : List ℕ) (o : Opened) (place : ℕ) → o ≡ opening_of s → place < o.count → o.base + 4 * place < 2 ^ 32
addressed s o place is h =
    omega (arith, (accepted.opened s).below, ap (λ (x : Opened). x.base) is, ap (λ (x : Opened). x.count) is)

-- the update is that of the definition
is_updated : (s : List ℕ) {o : Opened} {callee : Option ℕ} (place w : ℕ) (l : List Entry) → o ≡ opening_of s
    → callee ≡ callee_here (here_of (replaced_of s place w) place) → update_of (o.base + 4 * place) callee l ≡ updated_of s place w l
is_updated s {o} place w l opened is = unfold updated_of in
    ap (λ (x : Option ℕ). update_of (o.base + 4 * place) x l) is
    ∙ ap (λ (x : Opened). update_of (x.base + 4 * place) (callee_here (here_of (replaced_of s place w) place)) l) opened

pub overflow_mul-caller : goal.overflow_mul-caller
overflow_mul-caller c =
    record { fits = omega (arith, addressed c.args.section.now c.args.opened c.args.place c.requires.0 c.requires.1) }

pub overflow_add-caller : goal.overflow_add-caller
overflow_add-caller c =
    record { fits = addressed c.args.section.now c.args.opened c.args.place c.requires.0 c.requires.1 }

pub returns-then-updated_len-gt-MOST : goal.returns-then-updated_len-gt-MOST
returns-then-updated_len-gt-MOST c =
    let args = c.args in
    let l = entries_of args.index.now args.count in
    let same = is_updated args.section.now args.place args.word l c.requires.0 c.callee_at-callee.ensures in
    let counts = c.updated_len.ensures ∙ ap (λ (k : List Entry). length k) same in
    updates_none (many (updated_of args.section.now args.place args.word l) (omega (arith, counts))) refl

pub returns : goal.returns
returns c =
    let args = c.args in
    let l = entries_of args.index.now args.count in
    let same = is_updated args.section.now args.place args.word l c.requires.0 c.callee_at-callee.ensures in
    let counts = c.updated_len.ensures ∙ ap (λ (k : List Entry). length k) same in
    updates args.place args.word args.count (few (updated_of args.section.now args.place args.word l) (omega (arith, counts)))
    (c.update.ensures.value ∙ ap (λ (k : List Entry). length k) same)
    c.replace.ensures
    (c.update.ensures.index_after ∙ ap (λ (k : List Entry). written args.index.now 0 (numbers_of k)) same)
