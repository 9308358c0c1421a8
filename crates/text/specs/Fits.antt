-- A text in a lent buffer, if there is room (01, "Refusal numbers").
use Rattle.std.specs.Prelude.{List, ℕ, leb, length, Result, Ok, Err}
use Rattle.word.specs.declared.refusal.Refusal.{Refusal}
use Rattle.word.specs.Choice.{pick}
use Rattle.word.specs.Refusal.{NO_ROOM, refusing}
use Rattle.text.specs.Text.{written}

-- what writing gives: how much was written, or a refusal
abbrev pub Written : Type 0
Written = Result ℕ Refusal

-- how much was written; none beside a refusal
abbrev pub len_in : Written → ℕ
len_in (Ok n) = n
len_in (Err r) = 0

-- the text's length; or 10, "line longer than the lent buffer"
unfoldable pub answer_of : {A : Type 0} → List A → List A → Written
answer_of text out = pick (leb (length text) (length out)) (Ok (length text)) (refusing NO_ROOM)

-- "A written line changes its own bytes and none after them"; a refusal changes none
unfoldable pub last_of : {A : Type 0} → List A → List A → List A
last_of text out = pick (leb (length text) (length out)) (written out 0 text) out
