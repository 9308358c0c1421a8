-- `patched::put_patched` meets its contract. Assumes nothing.
use mathlib.Core.Path.{◌≡◌, sym}
use mathlib.Core.List.{List}
use Prim.Native.Nat.{ℕ, ◌≤◌}
use native.Mathlib.Omega.{arith}
use lib.ListN.{length}
use Rattle.std.specs.Prelude.{Ok}
use Rattle.section.specs.Section.{opened_of}
use Rattle.section.specs.declared.Opened.{Opened}
use Rattle.text.proofs.Writing.{◌then◌}
use Rattle.patched.specs.Patched.{patched_of}
use Rattle.patched.proofs.Accepts.{starts_within, laid_fits, front_size, parts_size, is_accepted, start_is, laid_is}
use Rattle.patched.proofs.put_patched.Goals as goal

-- an accepted section's start is a place of it
start_within : (s : List ℕ) {o : Opened} → opened_of s ≡ Ok o → o.start ≤ length s
start_within s is = rw (start_is s is) (starts_within s (is_accepted s is))

pub slice_bounds-put-end : goal.slice_bounds-put-end
slice_bounds-put-end c =
    let s = c.args.section.now in
    let is = c.opened-opened.ensures in
    rw (c.bytes-bytes.ensures, start_is s is) (sym (front_size s (is_accepted s is)))

pub put-at-requires : goal.put-at-requires
put-at-requires c =
    let s = c.args.section.now in
    let is = c.opened-opened.ensures in
    let ok = is_accepted s is in
    rw (c.bytes-bytes.ensures, start_is s is) (omega (arith, c.requires, front_size s ok, parts_size s ok c.args.patch.now))

pub slice_bounds-put_words-count : goal.slice_bounds-put_words-count
slice_bounds-put_words-count c = rw c.bytes-bytes.ensures (start_within _ c.opened-opened.ensures)

pub slice_bounds-put_words-start : goal.slice_bounds-put_words-start
slice_bounds-put_words-start c = let h = start_within _ c.opened-opened.ensures in rw (sym c.bytes-bytes.ensures) at h

pub slice_bounds-put_words-count-2 : goal.slice_bounds-put_words-count-2
slice_bounds-put_words-count-2 c = rw c.bytes.ensures (start_within _ c.opened-over.ensures)

pub slice_bounds-put_words-start-2 : goal.slice_bounds-put_words-start-2
slice_bounds-put_words-start-2 c = let h = start_within _ c.opened-over.ensures in rw (sym c.bytes.ensures) at h

pub put_words-requires-clause-base_value : goal.put_words-requires-clause-base_value
put_words-requires-clause-base_value c =
    let s = c.args.section.now in
    let p = c.args.patch.now in
    let is = c.opened-opened.ensures in
    let over = c.opened-over.ensures in
    rw (c.bytes-bytes.ensures, c.bytes.ensures, laid_is s is, laid_is p over)
    (laid_fits s (is_accepted s is), laid_fits p (is_accepted p over))

pub put_words-requires-clause-room : goal.put_words-requires-clause-room
put_words-requires-clause-room c =
    let put = c.put-at in
    let s = c.args.section.now in
    let p = c.args.patch.now in
    let is = c.opened-opened.ensures in
    let ok = is_accepted s is in
    let front = rw (c.bytes-bytes.ensures, start_is s is) at put.ensures in
    rw (c.bytes-bytes.ensures, c.bytes.ensures, laid_is s is, laid_is p c.opened-over.ensures)
    (omega (arith, put.auto.out, front.ends, front_size s ok, parts_size s ok p, c.requires))

pub returns : goal.returns
returns c = unfold patched_of in
    let put = c.put-at in
    let s = c.args.section.now in
    let p = c.args.patch.now in
    let is = c.opened-opened.ensures in
    rw (c.bytes-bytes.ensures, start_is s is) at put.ensures
    then rw (c.bytes-bytes.ensures, c.bytes.ensures, laid_is s is, laid_is p c.opened-over.ensures) at c.put_words.ensures
