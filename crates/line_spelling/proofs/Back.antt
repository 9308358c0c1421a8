-- The text of a formed instruction is read back to it. Assumes nothing.
use mathlib.Core.Path.{◌≡◌, refl, sym, ap, ◌∙◌}
use mathlib.Core.Bool.{Bool, true, false}
use mathlib.Core.List.{List, [], ◌∷◌, ◌++◌}
use Prim.Native.Nat.{ℕ, ◌<◌, ◌≤◌}
use Prim.Native.Char.{code}
use native.Mathlib.Omega.{arith}
use borrow.Author.Tests.{eqb-true, eqb-false, ltb-false}
use lib.Dec.{eqb, ltb}
use Rattle.word.specs.Choice.{pick, by_test, parts}
use Rattle.text.specs.Text.{bytes, decimal_of}
use Rattle.insn.specs.Roots.{NAMES, roots}
use Rattle.insn.specs.Numbers.{flow_number}
use Rattle.insn.specs.declared.Operand.{Operand}
use Rattle.insn.specs.Answer.{insn_of, places}
use Rattle.insn.specs.declared.Cond.{Cond}
use Rattle.insn.specs.declared.Flow.{Flow}
use Rattle.insn.specs.declared.Flow.TheVariants.{Next, Branch, CondBranch, IndirectBranch, Call, IndirectCall, Return, Trap}
use Rattle.insn.specs.declared.Insn.{Insn}
use Rattle.insn.specs.declared.Place.{Place}
use Rattle.line_spelling.specs.Names.{entry, suffixes, flows}
use Rattle.line_spelling.specs.Line.{operand_text, stem_of, tail_of, name_text, flow_text, insn_text, refused_text}
use Rattle.line_spelling.proofs.Cut.{all_cat, isnt, pieces, cut, uncut}
use Rattle.line_spelling.proofs.Formed.{Laid, Formed, Aimed, unconditional, target_in}
use Rattle.line_spelling.proofs.Names.{whole, name_from, condition_from, spelled, name_back, condition_back}
use Rattle.line_spelling.proofs.Spaced.{spaced, insn_text_lem}
use Rattle.line_spelling.proofs.Tables.{every_passes, find, found, flow_few}
use Rattle.line_spelling.proofs.Clean.{free, decimal_free, operand_free}
use Rattle.line_spelling.proofs.Read.{operand_from, operand_back}

flow_free : (flow : Flow) → free (flow_text flow) ≡ true
flow_free flow = unfold flow_text in every_passes (λ n. free (entry flows n)) 8 tt (flow_number flow) (flow_few flow)

name_free : (n : ℕ) (c : Cond) → n < NAMES → c.0 < 16 → free (name_text n c) ≡ true
name_free n c h k = unfold name_text in
    simp (all_cat, parted.0, every_passes (λ n. free (entry suffixes n)) 16 tt c.0 k, parted.1)
  where
    parted : (free (entry roots (stem_of n)) ≡ true) × (free (tail_of n) ≡ true)
    parted =
        parts _ _ (sym (all_cat (isnt (code " ")) (entry roots (stem_of n)) (tail_of n)) ∙ ap free (whole n)
        ∙ every_passes (λ n. free (entry roots n)) NAMES tt n h)

-- the words of a text after the name: the operands, and the flow
abbrev words_of : List Operand → List ℕ → List (List ℕ)
words_of [] flow = flow ∷ []
words_of (o ∷ os) flow = operand_text o ∷ words_of os flow

spaced_words : (name : ℕ) (ops : List Operand) → Laid name ops → (a flow : List ℕ) → free a ≡ true → free flow ≡ true
    → pieces (code " ") (a ++ spaced ops (code " " ∷ flow)) ≡ a ∷ words_of ops flow
spaced_words name [] laid a flow p q = rw (cut (code " ") a flow p, uncut (code " ") flow q)
spaced_words name (o ∷ []) s a flow p q =
    rw (cut (code " ") a (operand_text o ++ code " " ∷ flow) p, spaced_words name [] tt (operand_text o) flow (operand_free true name o s) q)
spaced_words name (o ∷ o' ∷ os) laid a flow p q =
    rw (
      cut (code " ") a (operand_text o ++ spaced (o' ∷ os) (code " " ∷ flow)) p,
      spaced_words name (o' ∷ os) laid.1 (operand_text o) flow (operand_free false name o laid.0) q,
    )

-- the reader of an instruction's text
abbrev operands_from : ℕ → List (List ℕ) → List Operand
operands_from name [] = []
operands_from name (x ∷ []) = []
operands_from name (x ∷ y ∷ ws) = operand_from name x ∷ operands_from name (y ∷ ws)

abbrev last_of : List (List ℕ) → List ℕ
last_of [] = []
last_of (x ∷ []) = x
last_of (x ∷ y ∷ ws) = last_of (y ∷ ws)

abbrev flow_from : ℕ → ℕ → Flow
flow_from n a =
    pick (eqb n 0) Next
    (pick (eqb n 1) (Branch a)
    (pick (eqb n 2) (CondBranch a)
    (pick (eqb n 3) IndirectBranch
    (pick (eqb n 4) (Call a)
    (pick (eqb n 5) IndirectCall
    (pick (eqb n 6) Return Trap))))))

abbrev made : ℕ → ℕ → ℕ → ℕ → List Operand → Insn
made addr name cond flow ops = insn_of addr name (record { 0 = pick (unconditional name flow) 15 cond }) (flow_from flow (target_in ops)) (places ops)

abbrev from_words : ℕ → List (List ℕ) → Insn
from_words addr [] = made addr 0 0 0 []
from_words addr (n ∷ ws) = made addr (name_from n) (condition_from n) (find flows (last_of ws)) (operands_from (name_from n) ws)

pub insn_from : ℕ → List ℕ → Insn
insn_from addr text = from_words addr (pieces (code " ") text)

operands_back : (name : ℕ) (ops : List Operand) → Laid name ops → (flow : List ℕ) → operands_from name (words_of ops flow) ≡ ops
operands_back name [] laid flow = refl
operands_back name (o ∷ []) s flow = ap (λ (x : Operand). x ∷ []) (operand_back true name o s)
operands_back name (o ∷ p ∷ os) laid flow = rw (operand_back false name o laid.0, operands_back name (p ∷ os) laid.1 flow)

last_back : (ops : List Operand) (flow : List ℕ) → last_of (words_of ops flow) ≡ flow
last_back [] flow = refl
last_back (o ∷ []) flow = refl
last_back (o ∷ p ∷ os) flow = last_back (p ∷ os) flow

flow_number_lem : (flow : Flow) → find flows (flow_text flow) ≡ flow_number flow
flow_number_lem flow = unfold flow_text in found flows 8 tt (flow_number flow) (flow_few flow)

flow_back : (ops : List Operand) (flow : Flow) → Aimed ops flow → flow_from (flow_number flow) (target_in ops) ≡ flow
flow_back ops Next h = refl
flow_back ops (Branch a) h = ap Branch h
flow_back ops (CondBranch a) h = ap CondBranch h
flow_back ops IndirectBranch h = refl
flow_back ops (Call a) h = ap Call h
flow_back ops IndirectCall h = refl
flow_back ops Return h = refl
flow_back ops Trap h = refl

always_back : (c : ℕ) (always : Bool) → c < 16 → eqb c 15 ≡ always → pick always 15 (spelled c) ≡ c
always_back c true h e = sym (eqb-true c 15 e)
always_back c false h e = by_test (ltb c 14) (λ f. rw f) (λ f. rw f (last (ltb-false c 14 f) (eqb-false c 15 e)))
  where
    last : 14 ≤ c → (c ≡ 15 → ⊥) → 14 ≡ c
    last most other = omega arith

same_parts : (addr : ℕ) {n n' c c' f f' : ℕ} {o o' : List Operand} → n ≡ n' → c ≡ c' → f ≡ f' → o ≡ o' → made addr n c f o ≡ made addr n' c' f' o'
same_parts addr p q r s = rw (p, q, r, s)

same_fields : {a a' n c c' : ℕ} {f f' : Flow} {o o' : List Place} → a ≡ a' → c ≡ c' → f ≡ f' → o ≡ o'
    → insn_of a n (record { 0 = c }) f o ≡ insn_of a' n (record { 0 = c' }) f' o'
same_fields p q r s = cc

pub reads_back : (addr : ℕ) (i : Insn) → Formed addr i → insn_from addr (insn_text i) ≡ i
unfolding insn_from
reads_back addr i f =
    ap (λ (text : List ℕ). from_words addr (pieces (code " ") text)) (insn_text_lem i f)
    ∙ ap (from_words addr) (spaced_words i.name ops f.sound name flow (name_free i.name i.cond f.named f.under)
    (flow_free i.flow))
    ∙ same_parts addr named
    (condition_back i.name i.cond f.named f.under)
    (ap (find flows) (last_back ops flow) ∙ flow_number_lem i.flow)
    (ap (λ (n : ℕ). operands_from n (words_of ops flow)) named ∙ operands_back i.name ops f.sound flow)
    ∙ same_fields (sym f.asked) (always_back i.cond.0 _ f.under f.always) (flow_back ops i.flow f.aimed) (sym f.laid)
  where
    ops : List Operand
    ops = f.operands

    name : List ℕ
    name = name_text i.name i.cond

    flow : List ℕ
    flow = flow_text i.flow

    named : name_from name ≡ i.name
    named = name_back i.name i.cond f.named f.under

-- a refusal has no name
module _ (n : ℕ) where
  pub refused_words : pieces (code " ") (refused_text n) ≡ bytes "refused" ∷ decimal_of n ∷ []
  refused_words = unfold refused_text in cut (code " ") (bytes "refused") (decimal_of n) refl ∙ rw (uncut (code " ") (decimal_of n) (decimal_free n))

  pub nameless : (addr : ℕ) → (insn_from addr (refused_text n)).name ≡ NAMES
  nameless addr = unfold insn_from name_from condition_from in ap (λ (ws : List (List ℕ)). (from_words addr ws).name) refused_words
