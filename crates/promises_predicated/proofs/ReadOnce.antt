-- 02, P2: conditional code read once. Assumes nothing.
use mathlib.Core.Path.{◌≡◌, refl, sym, ap, ◌∙◌}
use Rattle.word.specs.Refusal.{refused_with}
use mathlib.Core.Bool.{Bool, true}
use mathlib.Core.List.{append_assoc}
use Prim.Native.Nat.{ℕ, ◌+◌}
use borrow.Author.Tests.{eqb-false}
use lib.Dec.{eqb, leb}
use Rattle.word.specs.Choice.{by_test}
use Rattle.word.specs.Field.{field}
use Rattle.insn.specs.Answer.{Decoded, insn_in}
use Rattle.a32.specs.Decode.{control_of, decode_of}
use Rattle.a32.proofs.Groups.{Below, Group, unconditional, coprocessor, misc, halfword, dp_reg, multiply, sync, extra_ldst, dp_imm, ldst, ldst_index}
use Rattle.a32.proofs.Groups.{media, block, branch, found, reaches}
use Rattle.encode_home.specs.Alike.{Alike, fields_alike}
use Rattle.encode_home.specs.declared.Filler.{Filler}
use Rattle.encode_home.specs.Home.{puts_of, home_by, home_of}
use Rattle.encode_home.proofs.Puts.{all_good, put_all_alike}
use Rattle.line_spelling.specs.Line.{name_text, insn_text, answer_text}
use Rattle.promises_predicated.specs.Predicated.{flow_at, under, text_under}
use Rattle.promises_predicated.proofs.Laws.{refusal_under, name_under, operands_under, flow_under, home_under}
use Rattle.promises_predicated.proofs.Groups as G

-- the text of an answer under a condition
text_under_lem : (c : ℕ) (d : Decoded) → answer_text (under c d) ≡ text_under c d
text_under_lem c d = unfold under answer_text insn_text name_text in by_test (eqb (refused_with d) 0) (λ e. simp (e, append_assoc)) (λ e. simp e)

module _ (w v addr : ℕ) (alike : Alike w v) (c : Below w) (c' : Below v) where
  -- fields below the condition, as they are in w
  still : {n : ℕ} (lo k : ℕ) → leb (lo + k) 28 ≡ true → field w lo k ≡ n → field v lo k ≡ n
  still lo k low is = sym (fields_alike w v alike lo k low) ∙ is

  control : {b : Bool} → control_of w ≡ b → control_of v ≡ b
  control is = unfold control_of in simp (← (fields_alike w v alike 23 2 refl), ← (fields_alike w v alike 20 1 refl)) is

  -- so v is in the group of w
  beside : {row : ℕ → ℕ → Decoded} → Group w row → Group v row
  beside (unconditional e) = absurd (eqb-false (field w 28 4) 15 c e)
  beside (misc _ g is seven) = misc c' (still 25 3 refl g) (control is) (still 7 1 refl seven)
  beside (halfword _ g is seven four) = halfword c' (still 25 3 refl g) (control is) (still 7 1 refl seven) (still 4 1 refl four)
  beside (dp_reg _ g is seven) = dp_reg c' (still 25 3 refl g) (control is) (λ set. still 7 1 refl (seven (fields_alike w v alike 4 1 refl ∙ set)))
  beside (multiply _ g seven four kind exclusive) =
      multiply c' (still 25 3 refl g) (still 7 1 refl seven) (still 4 1 refl four) (still 5 2 refl kind) (still 24 1 refl exclusive)
  beside (sync _ g seven four kind exclusive) =
      sync c' (still 25 3 refl g) (still 7 1 refl seven) (still 4 1 refl four) (still 5 2 refl kind) (still 24 1 refl exclusive)
  beside (extra_ldst _ g seven four kind) =
      extra_ldst c' (still 25 3 refl g) (still 7 1 refl seven) (still 4 1 refl four) (rw (← (fields_alike w v alike 5 2 refl)) kind)
  beside (dp_imm _ g) = dp_imm c' (still 25 3 refl g)
  beside (ldst _ g) = ldst c' (still 25 3 refl g)
  beside (ldst_index _ g four) = ldst_index c' (still 25 3 refl g) (still 4 1 refl four)
  beside (media _ g four) = media c' (still 25 3 refl g) (still 4 1 refl four)
  beside (block _ g) = block c' (still 25 3 refl g)
  beside (branch _ g) = branch c' (still 25 3 refl g)
  beside (coprocessor _ p) = coprocessor c' (still 26 2 refl p)

  -- and the group answers v as w, under v's condition
  once : {row : ℕ → ℕ → Decoded} → Group w row → row v addr ≡ under (field v 28 4) (row w addr)
  once (unconditional e) = absurd (eqb-false (field w 28 4) 15 c e)
  once (misc _ g is seven) = G.misc w v addr alike
  once (halfword _ g is seven four) = G.halfword w v addr alike
  once (dp_reg _ g is seven) = G.dp_reg w v addr alike
  once (multiply _ g seven four kind exclusive) = G.multiply w v addr alike
  once (sync _ g seven four kind exclusive) = G.sync w v addr alike
  once (extra_ldst _ g seven four kind) = G.extra_ldst w v addr alike
  once (dp_imm _ g) = G.dp_imm w v addr alike
  once (ldst _ g) = G.ldst w v addr alike
  once (ldst_index _ g four) = G.ldst w v addr alike
  once (media _ g four) = G.media w v addr alike
  once (block _ g) = G.block w v addr alike
  once (branch _ g) = G.branch w v addr alike
  once (coprocessor _ p) = G.coproc w v addr alike

  pub read_once : decode_of v addr ≡ under (field v 28 4) (decode_of w addr)
  read_once = of (found w).1
    where
      of : {row : ℕ → ℕ → Decoded} → Group w row → decode_of v addr ≡ under (field v 28 4) (decode_of w addr)
      of group = reaches v (beside group) addr ∙ once group ∙ ap (under (field v 28 4)) (sym (reaches w group addr))

-- the home words of two words that differ in the condition alone, too
pub homes_alike : (f : Filler) (w v : ℕ) → Alike w v → Below w → Below v → Alike (home_of f w) (home_of f v)
unfolding home_of
homes_alike f w v alike c c' =
    both_by (decode_of w 0) ∙ sym (ap (λ (x : ℕ). field x 0 28) (ap (λ (d : Decoded). home_by f d v) (read_once w v 0 alike c c')
    ∙ home_under f (field v 28 4) (decode_of w 0) v))
  where
    both_by : (d : Decoded) → Alike (home_by f d w) (home_by f d v)
    both_by d =
        by_test (eqb (refused_with d) 0)
        (λ ok. simp ok (put_all_alike f (puts_of (insn_in d)) (all_good (insn_in d)) w v alike))
        (λ refused. simp refused alike)

module _ (w v addr : ℕ) (alike : Alike w v) (c : Below w) (c' : Below v) where
  -- the text after the word
  pub text_once : answer_text (decode_of v addr) ≡ text_under (field v 28 4) (decode_of w addr)
  text_once = ap answer_text (read_once w v addr alike c c') ∙ text_under_lem (field v 28 4) (decode_of w addr)

  pub home_once : (f : Filler) → Alike (home_of f w) (home_of f v)
  home_once f = homes_alike f w v alike c c'

  -- part by part
  pub same_refusal : refused_with (decode_of v addr) ≡ refused_with (decode_of w addr)
  same_refusal = ap (λ (d : Decoded). refused_with d) (read_once w v addr alike c c') ∙ refusal_under (field v 28 4) (decode_of w addr)

  pub same_name : (insn_in (decode_of v addr)).name ≡ (insn_in (decode_of w addr)).name
  same_name = ap (λ (d : Decoded). (insn_in d).name) (read_once w v addr alike c c') ∙ name_under (field v 28 4) (decode_of w addr)

  pub same_operands : (insn_in (decode_of v addr)).ops ≡ (insn_in (decode_of w addr)).ops
  same_operands = ap (λ (d : Decoded). (insn_in d).ops) (read_once w v addr alike c c') ∙ operands_under (field v 28 4) (decode_of w addr)

  pub same_flow : refused_with (decode_of w addr) ≡ 0 → (insn_in (decode_of v addr)).flow ≡ flow_at (field v 28 4) (insn_in (decode_of w addr)).flow
  same_flow ok = ap (λ (d : Decoded). (insn_in d).flow) (read_once w v addr alike c c') ∙ flow_under (field v 28 4) (decode_of w addr) ok
