-- `section::replace` meets its contract. Assumes nothing.
use mathlib.Core.Path.{◌≡◌, refl, ap, ◌∙◌}
use Rattle.std.proofs.lemmas.Slice.{put_mid-paste}
use lib.Seq.{paste}
use Rattle.word.specs.Bytes.{bytes_of}
use Rattle.section.specs.Replaced.{replaced_of}
use mathlib.Core.List.{List}
use Prim.Native.Nat.{ℕ, ◌+◌, ◌*◌, ◌<◌, ◌≤◌}
use native.Mathlib.Omega.{arith}
use lib.ListN.{length}
use Rattle.section.specs.Section.{start_of, opening_of}
use Rattle.section.specs.declared.Opened.{Opened}
use Rattle.section.proofs.Replaced.{room, start_is}
use Rattle.section.proofs.replace.Goals as goal

-- a place of the section, and where its bytes are
module _ (s : List ℕ) (o : Opened) (place w : ℕ) (given : (o ≡ opening_of s) × (place < o.count)) where
  inside : place < (opening_of s).count
  inside = omega (arith, given.1, ap (λ (x : Opened). x.count) given.0)

  at : o.start + 4 * place ≡ start_of s + 4 * place
  at = omega (arith, ap (λ (x : Opened). x.start) given.0, start_is s place w inside)

  fits : o.start + 4 * place + 4 ≤ length s
  fits = omega (arith, at, room s place w inside)

its_room : (c : goal.After-struct_known-1)
    → c.args.opened.start + 4 * c.args.place + 4 ≤ length c.args.bytes.now
its_room c = let args = c.args in fits args.bytes.now args.opened args.place args.word c.requires

pub overflow_add-at : goal.overflow_add-at
overflow_add-at c = record { fits = omega (arith, its_room c) }

pub overflow_add-at-2 : goal.overflow_add-at-2
overflow_add-at-2 c = record { fits = omega (arith, its_room c) }

pub slice_bounds-copy_from_slice-end : goal.slice_bounds-copy_from_slice-end
slice_bounds-copy_from_slice-end c = omega (arith, its_room c)

pub returns : goal.returns
unfolding replaced_of
returns c =
    let args = c.args in
    let s = args.bytes.now in
    let its = c.copy_from_slice.ensures.after ∙ c.to_le_bytes.ensures in
    put_mid-paste _ _ s _ (bytes_of args.word) 4 its (omega arith) refl
    ∙ ap (λ (n : ℕ). paste s n (bytes_of args.word) 4) (at s args.opened args.place args.word c.requires)
