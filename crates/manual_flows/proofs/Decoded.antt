-- The flow of a word's row is the decoder's, but for three departures. Assumes nothing.
use Rattle.std.proofs.Common.{◌≡◌, refl, sym, ap, ◌∙◌, Bool, true, false, List, [], ◌∷◌, ℕ, T, eqb}
use Rattle.word.specs.Refusal.{refused_with}
use Prim.Native.String.{String}
use lib.Text.{eqt}
use Rattle.word.specs.Choice.{pick, both, by_test, parts, passes}
use Rattle.word.specs.Field.{field}
use Rattle.insn.specs.Answer.{refused, insn_in}
use Rattle.insn.specs.Answer.{Decoded}
use Rattle.insn.specs.declared.Flow.TheVariants.{Next, IndirectBranch}
use Rattle.a32.specs.Decode.{decode_of}
use Rattle.a32_elsewhere.proofs.Elsewhere.{refused_anywhere}
use Rattle.encode_home.proofs.Leads.{refusal}
use Rattle.manual.specs.A5.{table_row}
use Rattle.manual.specs.A8.{is_among, returning, sees, said_of, said_among, other_page_of, page_of, row_of}
use Rattle.manual.specs.Departures.{Standing, follows, departs, load_15, Covering, coverings, standing_among, standing_of, hints, answered}
use Rattle.manual.specs.Departures.{conditioned, port_loads, literals, displaced, preloads, coprocessor_transfers}
use Rattle.manual.specs.Reads.{is_set, branches_to}
use Rattle.manual.specs.Stands.{StandsAs}
use Rattle.manual.proofs.Fields.{no_true, ◌also◌}
use Rattle.manual.proofs.Pages.{returns}
use Rattle.manual_follows.proofs.Follows.{follows_the_manual}
use Rattle.manual_drawn.proofs.Departing.{one_pages, by_see}
use Rattle.manual_drawn.proofs.Drawn.{ranged}
use Rattle.manual_drawn.proofs.Told.{all_of, one_of, moves, others, returns_tell}
use Rattle.manual_drawn.proofs.Transfers.{each_of}
use Rattle.manual_flows.specs.Opens.{opens}
use Rattle.manual_flows.specs.Flows.{Control, goes, unknown, control_as, control_of, Kept, restores}
use Rattle.manual_flows.proofs.Pages.{same_at, page_goes, port_goes, port_control, loads, answered_so, agreed_so}

-- by the first covering that covers a page, or by none
abbrev Covers : (Standing → Type 0) → String → List Covering → Type 0
Covers P page [] = Unit
Covers P page (c ∷ cs) = (is_among page c.rows ≡ true → P (departs c.departure)) × Covers P page cs

by_standing : (P : Standing → Type 0) (page : String) (cs : List Covering) → P follows → Covers P page cs → P (standing_among page cs)
by_standing P page [] here there = here
by_standing P page (c ∷ cs) here there =
    by_test (both (is_among page c.rows) c.covers)
    (λ e. rw e (there.0 (parts _ _ e).0))
    (λ e. rw e (by_standing P page cs here there.1))

-- the loads of load-15 that others cover too
abbrev byte_loads : List String
byte_loads = "LDRB (immediate, ARM)" ∷ "LDRB (literal)" ∷ []

module _ (w addr : ℕ) where
  abbrev control : String → Control
  control = control_as w addr

  -- an answer that is accepted goes as c says
  abbrev Goes : Control → Decoded → Type 0
  Goes c d = refused_with d ≡ 0 → goes (insn_in d).flow ≡ c

  -- what a page reads, where its title goes as c says
  page_flows : (title : String) {c : Control} → control title ≡ c → Goes c (answered (said_of w addr title))
  page_flows title e ok = answered_so (said_of w addr title) (control title) ok ∙ page_goes w addr title ∙ e

  -- SUBS PC, LR: by the row
  row_returns : both (is_among (table_row w) returning) (both (eqb (field w 12 4) 15) (is_set w 20)) ≡ true
      → control (other_page_of (table_row w) w) ≡ goes (restores w addr)
  row_returns e =
      let (is, so) = parts (is_among (table_row w) returning) (both (eqb (field w 12 4) 15) (is_set w 20)) e in
      let (rd, s) = parts (eqb (field w 12 4) 15) (is_set w 20) so in
      same_at (λ t. control (other_page_of t w)) (λ t. goes (pick (eqt t "MOV (register, ARM)") (branches_to (field w 0 4)) IndirectBranch)) (table_row w)
      returning (unfold other_page_of control_as in by_test (is_set w 23) (λ u. simp (rd, s, u)) (λ u. simp (rd, s, u))) is

  returns_control : control returns ≡ goes (restores w addr)
  returns_control = unfold control_as in refl

  no_row : row_of w ≡ returns → table_row w ≡ returns → ⊥
  no_row is e =
      no_true (sym (sym (ap (λ (s : String). is_among s others) e) ∙ (returns_tell w is (ap (λ (s : String). is_among s moves) e)).0))

  returns_flow : row_of w ≡ returns → control (other_page_of (table_row w) w) ≡ goes (restores w addr)
  returns_flow is = unfold row_of page_of in
      by_see (λ s. s ≡ returns → control (other_page_of (table_row w) w) ≡ goes (restores w addr)) (table_row w) (sees w)
      (λ e. absurd (no_row is e))
      ((λ e so. row_returns e) also
      (λ e so. other refl so) also (λ e so. other refl so) also (λ e so. other refl so) also (λ e so. other refl so) also
      (λ e so. other refl so) also (λ e so. other refl so) also tt)
      is
    where
      other : {s : String} → eqt s returns ≡ false → s ≡ returns → control (other_page_of (table_row w) w) ≡ goes (restores w addr)
      other differs so = absurd (no_true (sym (ap (λ (s : String). eqt s returns) so) ∙ differs))

  -- PUSH and POP of one register: by the row
  one_flows : is_among (row_of w) one_pages ≡ true → control (table_row w) ≡ control (row_of w)
  one_flows is = unfold row_of page_of in
      by_see (λ s. is_among s one_pages ≡ true → control (table_row w) ≡ control s) (table_row w) (sees w)
      (λ so. refl)
      ((λ e so. absurd (no_true (sym so))) also (λ e so. absurd (no_true (sym so))) also (λ e so. absurd (no_true (sym so))) also
      (λ e so. same_at control (λ s. control "PUSH, one register") (table_row w) ("STR (immediate, ARM)" ∷ []) (unfold control_as in refl)
      (parts _ _ e).0) also
      (λ e so. same_at control (λ s. control "POP, one register") (table_row w) ("LDR (immediate, ARM)" ∷ []) (unfold control_as in refl)
      (parts _ _ e).0) also
      (λ e so. absurd (no_true (sym so))) also (λ e so. absurd (no_true (sym so))) also tt)
      (unfold row_of page_of in is)

  abbrev row : String
  row = row_of w

  -- titles whose pages write no PC
  abbrev next : String → Control
  next t = goes Next

  module _ (kept : Kept (standing_of (row_of w) w)) where
    -- of the loads to 15 no other departure reads one
    no_load : (titles : List String) → T (all_of (λ s. pick (is_among s loads) (is_among s byte_loads) true) titles) → is_among row titles ≡ true
        → is_among row loads ≡ true → eqb (field w 12 4) 15 ≡ false
    no_load titles all is load =
        by_test (eqb (field w 12 4) 15)
        (λ e. absurd (kept.2 (each_of (λ s. standing_of s w ≡ departs load_15) row byte_loads (unfold standing_of in simp e (refl also refl also tt))
        (passes _ (simp load at (one_of (λ s. pick (is_among s loads) (is_among s byte_loads) true) row titles all is))))))
        (λ e. e)

    port_is : (is_among row loads ≡ true → eqb (field w 12 4) 15 ≡ false) → port_control w addr row ≡ control row
    port_is to_none =
        by_test (is_among row loads)
        (λ load. simp (load, to_none load) (sym (same_at control next row loads (unfold control_as in refl) load)))
        (λ other. simp other)

    port_flows : (titles : List String) → T (all_of (λ s. pick (is_among s loads) (is_among s byte_loads) true) titles) → is_among row titles ≡ true
        → Goes (control row) (answered (said_among row (port_loads w addr)))
    port_flows titles all is ok =
        answered_so (said_among row (port_loads w addr)) (port_control w addr row) ok ∙ port_goes w addr row ∙ port_is (no_load titles all is)

    -- what stands so, where the departure's answer goes as the row
    abbrev So : Decoded → Standing → Type 0
    So d s = Kept s → StandsAs s (table_row w) row w addr d → Goes (control row) d

    told : {A : Type 0} {d x : Decoded} → Goes (control row) x → (d ≡ x) × A → Goes (control row) d
    told h (e, a) ok = ap (λ (d : Decoded). goes (insn_in d).flow) e ∙ h (sym (ap (λ (d : Decoded). refused_with d) e) ∙ ok)

    none : Goes (control row) (refused 3)
    none ok = refusal ok

    adr_flow : is_among row ("ADR" ∷ []) ≡ true → (u : Bool) → control (pick u "ADD (immediate, ARM)" "SUB (immediate, ARM)") ≡ control row
    adr_flow is u =
        both_ways u ∙ sym (same_at control (λ t. control "ADR") row ("ADR" ∷ []) refl is)
      where
        both_ways : (u : Bool) → control (pick u "ADD (immediate, ARM)" "SUB (immediate, ARM)") ≡ control "ADR"
        both_ways true = unfold control_as in refl
        both_ways false = unfold control_as in refl

    each_covering : (d : Decoded) → Covers (So d) row (coverings w)
    each_covering d =
        (λ is k s. told (page_flows _ (adr_flow is (is_set w 23))) s) also
        (λ is k s. told (page_flows _ (subs_flow (each_of (λ t. t ≡ returns) row (returns ∷ []) (refl also tt) is))) s) also
        (λ is k s. absurd (k.0 refl)) also
        (λ is k s. absurd (k.1 refl)) also
        (λ is k s. told (page_flows _ (one_flows is)) s) also
        (λ is k s. told none s) also
        (λ is k s. told none s) also
        (λ is k s. told none s) also
        (λ is k s. told none s) also
        (λ is k s. told none s) also
        (λ is k s. absurd (k.2 refl)) also
        (λ is k s. told (port_flows literals tt is) s) also
        (λ is k s. told (port_flows displaced tt is) s) also
        (λ is k s. told none s) also
        (λ is k s. told none s) also
        (λ is k s. told none s) also
        (λ is k s. told none s) also
        (λ is k s. told (page_flows _ (sym (same_at control (λ t. control "MSR (immediate)") row hints (unfold control_as in refl) is))) s) also
        (λ is k s. told (λ ok. same_at (λ t. goes (insn_in (conditioned w (answered (said_of w addr t)))).flow) control row ("BKPT" ∷ "UDF" ∷ [])
        (unfold control_as said_of in refl) is) s) also
        (λ is k s. told none s) also
        (λ is k s. told (port_flows preloads tt is) s) also
        (λ is k s. told (λ ok. sym (same_at control next row ("UNPREDICTABLE" ∷ []) (unfold control_as in refl) is)) s) also
        (λ is k s. told none s) also
        (λ is k s. told (port_flows coprocessor_transfers tt is) s) also
        (λ is k s. told (port_flows ("LDC (literal)" ∷ []) tt is) s) also
        (λ is k s. told (port_flows coprocessor_transfers tt is) s) also
        (λ is k s. told (λ ok. sym (same_at control next row ("MRC" ∷ []) (unfold control_as in refl) is)) s) also
        tt
      where
        subs_flow : row ≡ returns → control (other_page_of (table_row w) w) ≡ control row
        subs_flow e = returns_flow e ∙ sym (ap control e ∙ returns_control)

    -- also where a page says UNPREDICTABLE of a destination
    pub flow_is : refused_with (decode_of w addr) ≡ 0 → goes (insn_in (decode_of w addr)).flow ≡ control row
    flow_is ok = unfold standing_of in
        by_standing (So (decode_of w addr)) row (coverings w)
        (λ k s. λ ok. agreed_so (decode_of w addr) (said_of w addr row) (control row) s ok ∙ page_goes w addr row) (each_covering (decode_of w addr))
        kept stands ok
      where
        stands : StandsAs (standing_of row w) (table_row w) row w addr (decode_of w addr)
        stands = unfold row_of in follows_the_manual w addr (ranged w (refused_anywhere w 0 addr ∙ ok))

-- of an accepted word control goes as the decoder's flow says, but under three departures, and where nothing is said
pub as_decoded : (w addr : ℕ) → refused_with (decode_of w addr) ≡ 0 → Kept (standing_of (row_of w) w)
    → control_of w addr ≡ pick (opens (row_of w) w) unknown (goes (insn_in (decode_of w addr)).flow)
as_decoded w addr ok kept = unfold control_of in rw (flow_is w addr kept ok)
