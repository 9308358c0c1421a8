-- What a row of the manual's tables tells of a word's bits, and what the page does. Assumes nothing.
use mathlib.Core.Path.{◌≡◌, refl, sym, ap, ◌∙◌, subst}
use mathlib.Core.Bool.{Bool, true, false, not}
use mathlib.Core.List.{List, [], ◌∷◌}
use Prim.Native.Nat.{ℕ}
use Prim.Native.String.{String}
use borrow.Author.Tests.{eqb-true}
use lib.Dec.{T, eqb}
use lib.Text.{eqt, eqt→eq, eqt_refl}
use Rattle.word.specs.Choice.{pick, both, by_test, parts, passes}
use Rattle.word.specs.Every.{left, right}
use Rattle.word.specs.Field.{field}
use Rattle.manual.specs.A5 as A
use Rattle.manual.specs.A5.{table_row}
use Rattle.manual.specs.A8.{is_among, See, see_of, returning, other_sees, sees, page_of, row_of}
use Rattle.manual.specs.Departures.{hints}
use Rattle.manual.specs.Reads.{is_set}
use Rattle.manual.proofs.Fields.{op_bits, seven_22, both_false, pick_same, by_field, no_true, ◌also◌}
use Rattle.manual.proofs.Pages.{returns}

-- texts of a list: what a test says of all, it says of one that is among them
abbrev pub all_of : (String → Bool) → List String → Bool
all_of f [] = true
all_of f (s ∷ ss) = both (f s) (all_of f ss)

pub one_of : (f : String → Bool) (row : String) (ss : List String) → T (all_of f ss) → is_among row ss ≡ true → T (f row)
one_of f row [] t is = absurd (no_true (sym is))
one_of f row (s ∷ ss) t is =
    by_test (eqt row s)
    (λ e. subst (λ (x : String). T (f x)) (sym (eqt→eq row s (subst T (sym e) tt))) (left (f s) (all_of f ss) t))
    (λ e. one_of f row ss (right (f s) (all_of f ss) t) (simp e at is))

-- the pages that lead to SUBS PC, LR: MOV, MVN and the shifts; and the others
abbrev pub moves : List String
moves =
    "MOV (register, ARM)" ∷ "LSL (immediate)" ∷ "LSR (immediate)" ∷ "ASR (immediate)" ∷ "RRX" ∷ "ROR (immediate)" ∷ "MVN (register)" ∷
    "MOV (immediate)" ∷ "MVN (immediate)" ∷ []

abbrev pub others : List String
others =
    "AND (register)" ∷ "EOR (register)" ∷ "SUB (register)" ∷ "RSB (register)" ∷ "ADD (register)" ∷ "ADC (register)" ∷ "SBC (register)" ∷
    "RSC (register)" ∷ "ORR (register)" ∷ "BIC (register)" ∷ "AND (immediate)" ∷ "EOR (immediate)" ∷ "SUB (immediate, ARM)" ∷
    "RSB (immediate)" ∷ "ADD (immediate, ARM)" ∷ "ADC (immediate)" ∷ "SBC (immediate)" ∷ "RSC (immediate)" ∷ "ORR (immediate)" ∷
    "BIC (immediate)" ∷ "ADR" ∷ []

-- LDRT and its like
abbrev pub unprivileged_loads : List String
unprivileged_loads = "LDRT" ∷ "LDRBT" ∷ []

-- MSR of no field: mask 0, with bit 22 clear
abbrev pub no_field : ℕ → Bool
no_field w = both (eqb (field w 22 1) 0) (eqb (field w 16 4) 0)

-- what is known of a word by its row
record Telling : Type 0 where
  rows : List String
  holds : Bool

abbrev tellings : ℕ → List Telling
tellings w =
    record { rows = others; holds = not (both (is_set w 24) (is_set w 21)) } ∷
    record { rows = hints; holds = no_field w } ∷
    record { rows = "MSR (immediate)" ∷ []; holds = not (no_field w) } ∷
    record { rows = "PLD (literal)" ∷ []; holds = is_set w 22 } ∷
    record { rows = unprivileged_loads; holds = not (is_set w 24) } ∷
    record { rows = returns ∷ []; holds = false } ∷
    []

abbrev holds_of : String → List Telling → Bool
holds_of row [] = true
holds_of row (t ∷ ts) = pick (is_among row t.rows) t.holds (holds_of row ts)

unfoldable tells : ℕ → String → Bool
tells w row = holds_of row (tellings w)

-- a row of none of these tells nothing
abbrev silent : String → List Telling → Bool
silent row [] = true
silent row (t ∷ ts) = pick (is_among row t.rows) false (silent row ts)

silent_holds : (row : String) (ts : List Telling) → silent row ts ≡ true → holds_of row ts ≡ true
silent_holds row [] e = refl
silent_holds row (t ∷ ts) e =
    by_test (is_among row t.rows)
    (λ is. absurd (no_true (sym (simp is at e))))
    (λ other. simp other (silent_holds row ts (simp other at e)))

-- a table tells what each of its rows does
module _ (w : ℕ) where
  led : (b : Bool) (x y : String) → tells w (pick b x y) ≡ pick b (tells w x) (tells w y)
  led true x y = refl
  led false x y = refl

  nothing : (s : String) → silent s (tellings w) ≡ true → tells w s ≡ true
  nothing s e = unfold tells in silent_holds s (tellings w) e

  others_tell : (s : String) → is_among s others ≡ true → tells w s ≡ not (both (is_set w 24) (is_set w 21))
  others_tell s e = unfold tells in simp e

  hints_tell : (s : String) → is_among s others ≡ false → is_among s hints ≡ true → tells w s ≡ no_field w
  hints_tell s e is = unfold tells in simp (e, is)

  msr_tells : tells w "MSR (immediate)" ≡ not (no_field w)
  msr_tells = unfold tells in refl

  pld_tells : tells w "PLD (literal)" ≡ is_set w 22
  pld_tells = unfold tells in refl

  ldrt_tells : tells w "LDRT" ≡ not (is_set w 24)
  ldrt_tells = unfold tells in refl

  ldrbt_tells : tells w "LDRBT" ≡ not (is_set w 24)
  ldrbt_tells = unfold tells in refl

ruleset rows = (led, nothing, pick_same)

module _ (w : ℕ) where
  media_row : tells w (A.media w) ≡ true
  media_row = unfold A.media A.parallel_signed A.parallel_unsigned A.packing A.signed_multiply in simp rows

  -- in a row of the others 24 and 21 are not both set
  register_row : tells w (A.data_processing_register w) ≡ true
  register_row = unfold A.data_processing_register in
      by_test (both (is_set w 24) (is_set w 21))
      (λ e. let is = parts _ _ e in simp (rows, op_bits, both_false, eqb-true (field w 24 1) 1 is.0, eqb-true (field w 21 1) 1 is.1))
      (λ e. simp (rows, others_tell, e))

  immediate_row : tells w (A.data_processing_immediate w) ≡ true
  immediate_row = unfold A.data_processing_immediate in
      by_test (both (is_set w 24) (is_set w 21))
      (λ e. let is = parts _ _ e in simp (rows, op_bits, both_false, eqb-true (field w 24 1) 1 is.0, eqb-true (field w 21 1) 1 is.1))
      (λ e. simp (rows, others_tell, e))

  hint_row : tells w (A.msr_and_hints w) ≡ true
  hint_row = unfold A.msr_and_hints in
      by_field w 22 1
      ((λ r. by_test (eqb (field w 16 4) 0)
      (λ e. simp (rows, hints_tell, r, eqb-true (field w 16 4) 0 e))
      (λ e. simp (rows, msr_tells, r, e))) also
      (λ r. simp (rows, msr_tells, r)) also tt)

  preload_row : tells w (A.hints_and_simd w) ≡ true
  preload_row = unfold A.hints_and_simd in
      by_field w 22 1
      ((λ r. simp (rows, seven_22, both_false, r)) also (λ r. simp (rows, pld_tells, seven_22, both_false, r)) also tt)

  load_row : tells w (A.load_store w) ≡ true
  load_row = unfold A.load_store in
      by_field w 24 1
      ((λ p. simp (rows, ldrt_tells, ldrbt_tells, p)) also (λ p. simp (rows, op_bits, both_false, p)) also tt)

  data_row : tells w (A.data_processing w) ≡ true
  unfolding A.data_processing A.data_processing_shifted A.miscellaneous A.saturating A.multiply A.halfword_multiply A.extra_load_store A.extra_unprivileged
      A.synchronization
  data_row = simp (rows, register_row, immediate_row, hint_row)

  row_tells : tells w (table_row w) ≡ true
  row_tells = unfold table_row A.unconditional A.branch_and_block A.coprocessor in simp (rows, preload_row, load_row, data_row, media_row)

-- by a "SEE" that leads elsewhere
abbrev pub none_to : String → List See → Bool
none_to s [] = true
none_to s (x ∷ xs) = both (not (eqt x.to s)) (none_to s xs)

pub own : (row s : String) (xs : List See) → T (none_to s xs) → see_of row xs ≡ s → row ≡ s
own row s [] t e = e
own row s (x ∷ xs) t e =
    by_test (both (is_among row x.rows) x.holds)
    (λ is. absurd (differs (eqt x.to s) (left (not (eqt x.to s)) (none_to s xs) t) (same (simp is at e))))
    (λ other. own row s xs (right (not (eqt x.to s)) (none_to s xs) t) (simp other at e))
  where
    differs : (b : Bool) → T (not b) → T b → ⊥
    differs true t u = t
    differs false t u = u

    same : x.to ≡ s → T (eqt x.to s)
    same is = subst (λ (y : String). T (eqt x.to y)) is (eqt_refl x.to)

-- a page that no other row leads to is that of its own row
pub own_row : (w : ℕ) → T (none_to (row_of w) (sees w)) → table_row w ≡ row_of w
own_row w none = own (table_row w) (row_of w) (sees w) none (unfold row_of page_of in refl)

module _ (w : ℕ) where
  -- a page that no other leads to tells what its row does
  told : (s : String) → T (none_to s (sees w)) → row_of w ≡ s → tells w s ≡ true
  told s t is = unfold row_of page_of in subst (λ (row : String). tells w row ≡ true) (own (table_row w) s (sees w) t is) (row_tells w)

  pub msr_told : row_of w ≡ "MSR (immediate)" → no_field w ≡ false
  msr_told row = by_test (no_field w) (λ e. absurd (no_true (sym (simp e at (sym (msr_tells w) ∙ told "MSR (immediate)" tt row))))) (λ e. e)

  pub pld_told : row_of w ≡ "PLD (literal)" → is_set w 22 ≡ true
  pld_told row = sym (pld_tells w) ∙ told "PLD (literal)" tt row

  pub unprivileged_told : (page : String) → is_among page unprivileged_loads ≡ true → row_of w ≡ page → is_set w 24 ≡ false
  unprivileged_told page is row =
      by_test (is_set w 24)
      (λ p. absurd
      (subst T (ap not (told page (one_of (λ s. none_to s (sees w)) page unprivileged_loads tt is) row))
      (one_of (λ s. not (tells w s)) page unprivileged_loads (simp (ldrt_tells, ldrbt_tells, p) tt) is)))
      (λ p. p)

  pub hint_told : (page : String) → is_among page hints ≡ true → row_of w ≡ page → no_field w ≡ true
  hint_told page is row = sym (hints_tell w page other is) ∙ told page (one_of (λ s. none_to s (sees w)) page hints tt is) row
    where
      other : is_among page others ≡ false
      other = by_test (is_among page others) (λ e. absurd (subst T (ap not e) (one_of (λ s. not (is_among s others)) page hints tt is))) (λ e. e)

  -- and the rows of SUBS PC, LR
  pub returns_tell : row_of w ≡ returns → is_among (table_row w) moves ≡ false
      → (is_among (table_row w) others ≡ true) × (not (both (is_set w 24) (is_set w 21)) ≡ true)
  unfolding row_of page_of tells
  returns_tell is other =
      by_test (both (is_among (table_row w) returning) (both (eqb (field w 12 4) 15) (is_set w 20)))
      (λ e. let among = in_others (parts _ _ e).0 in (among, simp among at (row_tells w)))
      (λ e. absurd (no_true (sym (simp (own (table_row w) returns (other_sees w) tt (simp e at is)) at (row_tells w)))))
    where
      in_others : is_among (table_row w) returning ≡ true → is_among (table_row w) others ≡ true
      in_others e = passes _ (simp other at (one_of (λ s. pick (is_among s moves) true (is_among s others)) (table_row w) returning tt e))
