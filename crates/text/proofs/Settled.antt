-- A text that is written if there is room, and not at all if there is none. Assumes nothing.
use mathlib.Core.Path.{◌≡◌, refl, ◌∙◌}
use mathlib.Core.Bool.{Bool, true, false}
use mathlib.Core.List.{List}
use Prim.Native.Nat.{ℕ, ◌<◌, ◌≤◌}
use native.Mathlib.Nat.{zero-add}
use native.Mathlib.Omega.{arith}
use borrow.Author.Tests.{le-leb, lt-leb, leb-true}
use lib.Dec.{leb}
use lib.ListN.{length}
use Rattle.std.specs.Prelude.{Ok, Err}
use Rattle.std.specs.Result.{result_unwrap_or}
use Rattle.word.specs.Choice.{pick}
use Rattle.word.specs.Refusal.{NO_ROOM, refusing}
use Rattle.text.specs.Put.{Put}
use Rattle.text.specs.Fits.{Written, len_in, answer_of, last_of}

-- what a function answers and leaves, as its contract has them
abbrev pub Settles : {A : Type 0} → List A → List A → Written → List A → Type 0
Settles text out r last = (r ≡ answer_of text out) × (last ≡ last_of text out)

pub fits : {A : Type 0} {text out last : List A} {next : ℕ} → length text ≤ length out → Put out 0 text next last
    → Settles text out (Ok next) last
fits h put = unfold answer_of last_of in (rw (put.ends, zero-add) (simp (le-leb _ _ h)), put.holds ∙ simp (le-leb _ _ h))

-- a text that fits ends within the buffer
pub ends_within : {A : Type 0} {text out last : List A} {next : ℕ} → Put out 0 text next last → length last ≡ length out → length text ≤ length out
    → next ≤ length last
ends_within put kept room = omega (arith, put.ends)

pub no_room : {A : Type 0} (text : List A) {out : List A} → length out < length text → Settles text out (refusing NO_ROOM) out
no_room text h = unfold answer_of last_of in (simp (lt-leb _ _ h), simp (lt-leb _ _ h))

-- no more bytes are written than there is room for
pub within : {A : Type 0} (text out : List A) → len_in (answer_of text out) ≤ length out
unfolding answer_of
within text out = from (leb (length text) (length out)) refl
  where
    from : (b : Bool) → leb (length text) (length out) ≡ b
        → len_in (pick {A = Written} b (Ok (length text)) (refusing NO_ROOM)) ≤ length out
    from true e = leb-true _ _ e
    from false e = omega arith

-- a length, or 0 where there is none
or_nothing : (w : Written) → result_unwrap_or w 0 ≡ len_in w
or_nothing (Ok n) = refl
or_nothing (Err r) = refl

pub within_or : {A : Type 0} (text out : List A) → result_unwrap_or (answer_of text out) 0 ≤ length out
within_or text out = rw (or_nothing (answer_of text out)) (within text out)
