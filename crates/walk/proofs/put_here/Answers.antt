-- `walk::put_here` meets its contract. Assumes nothing.
use mathlib.Core.Path.{refl, sym, ap, ◌∙◌}
use native.Mathlib.Omega.{arith}
use lib.ListN.{length}
use Rattle.text.proofs.Writing.{none}
use Rattle.section.proofs.Accepted.{opened}
use Rattle.walk_marks.specs.Marks.{marks_of}
use Rattle.walk.proofs.Records.{here_is, here_not}
use Rattle.walk.proofs.put_here.Goals as goal

pub get-requires : goal.get-requires
get-requires c = omega (arith, c.requires.place_in_bounds, (opened c.args.section.now).few)

pub put_marked-requires-clause-room : goal.put_marked-requires-clause-room
put_marked-requires-clause-room c =
    let marked = sym c.get.ensures ∙ c.if-get.true in
    let same = here_is c.args.section.now (marks_of c.args.reached.now) c.args.place refl refl marked in
    omega (arith, ap length same, c.requires.room)

pub returns-then-get : goal.returns-then-get
returns-then-get c =
    let marked = sym c.get.ensures ∙ c.if-get.true in
    rw (here_is c.args.section.now (marks_of c.args.reached.now) c.args.place refl refl marked) c.put_marked.ensures

pub returns-else-get : goal.returns-else-get
returns-else-get c =
    let left = sym c.get.ensures ∙ c.if-get.false in
    rw (here_not c.args.section.now (marks_of c.args.reached.now) c.args.place left) (none _ _)
