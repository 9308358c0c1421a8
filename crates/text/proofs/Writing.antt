-- The laws of a text written into a buffer. Assumes nothing.
use mathlib.Core.Path.{◌≡◌, refl, sym, ◌∙◌}
use mathlib.Core.List.{List, [], ◌∷◌, ◌++◌, append-nil}
use Prim.Native.Nat.{ℕ, zero, suc, ◌+◌, ◌<◌, ◌≤◌}
use native.Mathlib.Nat.{zero-add, add_assoc, suc-add}
use native.Mathlib.Numerals.{add-one}
use native.Mathlib.Omega.{arith}
use lib.ListN.{length, get_or, take, drop, set, length-set, length-append, length-take, length-drop, drop_of_length-le}
use lib.Seq.{take-nil, drop-nil, take_all, take-append_seam, drop-append-add, drop-drop, paste-zero, set_split, append_snoc, take-suc}
use Rattle.text.specs.Text.{written}
use Rattle.text.specs.Put.{Room, Put}

-- writing nothing changes nothing
pub nothing : {A : Type 0} (out : List A) (at : ℕ) → out ≡ written out at []
nothing out at = unfold written in paste-zero out at []

-- a store is one byte written
pub one : {A : Type 0} (out : List A) (at : ℕ) (b : A) → at < length out → set out at b ≡ written out at (b ∷ [])
one out at b h = unfold written in rw (add-one, set_split out at b h) (sym (append_snoc (take at out) b (drop (suc at) out)))

-- what stands before the text stays
later : {A : Type 0} (x : A) (out : List A) (at : ℕ) (s : List A) → written (x ∷ out) (suc at) s ≡ x ∷ written out at s
later x out at s = unfold written in rw suc-add

-- a text and then another, from the first place on
first : {A : Type 0} (out s t : List A) → written (written out 0 s) (length s) t ≡ written out 0 (s ++ t)
first out s t = unfold written in
    simp (zero-add, length-append)
    (rw (take-append_seam s (drop (length s) out), drop-append-add s (drop (length s) out) (length t), drop-drop (length t) (length s) out))

-- beyond the buffer
beyond : {A : Type 0} (at : ℕ) (s t : List A) → written (written [] at s) (at + length s) t ≡ written [] at (s ++ t)
unfolding written
beyond at s t =
    simp (take-nil, drop-nil, append-nil, take_all (at + length s) s (omega arith), drop_of_length-le s {i = at + length s + length t} (omega arith))

-- writing a text and then another after it is writing both
pub both : {A : Type 0} (out : List A) (at : ℕ) (s t : List A) → written (written out at s) (at + length s) t ≡ written out at (s ++ t)
both [] at s t = beyond at s t
both (x ∷ out) zero s t = rw zero-add (first (x ∷ out) s t)
both (x ∷ out) (suc at) s t =
    rw (later x out at s, suc-add, later x (written out at s) (at + length s) t, both out at s t) (sym (later x out at (s ++ t)))

-- the length stays
pub same_size : {A : Type 0} (out : List A) (at : ℕ) (s : List A) → Room out at s → length (written out at s) ≡ length out
same_size out at s h = unfold written in simp (length-append, length-take, length-drop) (omega arith)

-- what a writer of one byte does, and one that writes nothing
pub byte : {A : Type 0} (out : List A) (at : ℕ) (b : A) → at < length out → Put out at (b ∷ []) (at + 1) (set out at b)
byte out at b h = record { ends = refl; holds = one out at b h }

pub none : {A : Type 0} (out : List A) (at : ℕ) → Put out at [] at out
none out at = record { ends = omega arith; holds = nothing out at }

-- a writer and then another write both texts
infixl 4 ◌then◌
pub ◌then◌ : {A : Type 0} {out last last' s t : List A} {at next next' : ℕ} → Put out at s next last → Put last next t next' last'
    → Put out at (s ++ t) next' last'
p then q = record {
  ends = q.ends ∙ simp (p.ends, length-append, add_assoc);
  holds = q.holds ∙ simp (p.ends, p.holds, both);
}

-- three numbers, one after the other
pub three_put : {A : Type 0} (out : List A) (at : ℕ) (a b c : A) → at + 3 ≤ length out
    → Put out at (a ∷ b ∷ c ∷ []) (at + 3) (set (set (set out at a) (at + 1) b) (at + 2) c)
three_put out at a b c h =
    let e : at + 1 + 1 ≡ at + 2 = omega arith in
    let f : at + 2 + 1 ≡ at + 3 = omega arith in
    rw (e, f) at
    (byte out at a (omega arith)
    then byte (set out at a) (at + 1) b (omega (arith, length-set out at a))
    then byte (set (set out at a) (at + 1) b) (at + 1 + 1) c (omega (arith, length-set out at a, length-set (set out at a) (at + 1) b)))

-- one more of a text
pub more : {A : Type 0} {out last : List A} {at : ℕ} (d : A) (text : List A) (i : ℕ) → Put out at (take i text) (at + i) last → i < length text
    → at + i < length last → Put out at (take (i + 1) text) (at + (i + 1)) (set last (at + i) (get_or text i d))
more {last = last} {at = at} d text i p h k =
    rw (← (add_assoc at i 1)) (rw (add-one i, take-suc text i d h) (p then byte last (at + i) (get_or text i d) k))

-- what was written from the first place on stands there
pub front : {A : Type 0} {out last s : List A} {next : ℕ} → Put out 0 s next last → take next last ≡ s
front {out} {s = s} p = unfold written in rw (p.ends, p.holds, zero-add) (take-append_seam s (drop (length s) out))
