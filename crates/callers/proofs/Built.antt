-- The index that is built holds exactly the section's calls, in order; and an update of it is the index that is built afresh. Assumes nothing.
use mathlib.Core.Path.{◌≡◌, sym, ap, subst, ◌∙◌}
use mathlib.Core.List.{List, [], ◌∷◌, foldl, foldl-append}
use mathlib.Core.Logic.{◌↔◌, inl, inr, ⊎_elim}
use Prim.Native.Nat.{ℕ, zero, suc, ◌+◌, ◌*◌, ◌<◌, ◌≤◌}
use native.Mathlib.Omega.{arith}
use borrow.Author.Tests.{eqb-true, eqb-false, ltb-true, ltb-false}
use lib.Dec.{eqb, ltb}
use lib.ListN.{length, take, drop, take-append-drop}
use lib.Seq.{take-suc, take_all}
use Rattle.std.specs.Prelude.{Option}
use Rattle.word.specs.Choice.{by_test}
use Rattle.section.specs.Section.{opened_in, opening_of, places_of, here_of}
use Rattle.section.specs.Replaced.{replaced_of}
use Rattle.section.specs.declared.Here.{Here}
use Rattle.section.specs.declared.Here.TheVariants.{End}
use Rattle.section.specs.declared.Opened.{Opened}
use Rattle.section.proofs.Places.{how_many_lem}
use Rattle.section.proofs.Fold.{upto}
use Rattle.section.proofs.Replaced.{opened_alike, stays_elsewhere}
use Rattle.callers_index.specs.Entries.{update_of}
use Rattle.callers_index.specs.Ordered.{In, Ordered}
use Rattle.callers_index.specs.declared.Entry.{Entry}
use Rattle.callers_index.proofs.Updating.{entered_length}
use Rattle.callers_index.proofs.Ordered.{Called, Other, same_list, enter_only, enter_holds, enter_ordered, update_only, update_holds, update_ordered}
use Rattle.callers.specs.Calls.{callee_here, address_here, add_here, index_of, IsCall}
use Rattle.callers.specs.Index.{updated_of}
use Rattle.callers.proofs.Calls.{address, CallAt, is_call, call_at}

-- an index never gets shorter
grows : (l : List Entry) (places : List Here) → length l ≤ length (foldl add_here l places)
grows l [] = omega arith
grows l (here ∷ places) =
    omega (arith, grows (add_here l here) places, entered_length (address_here here) (callee_here here) l)

module _ (s : List ℕ) where
  -- the entries before a place, and all of them
  abbrev pub before : ℕ → List Entry
  before place = upto add_here [] s place

  next : (place : ℕ) → place < length (places_of s) → before (suc place) ≡ add_here (before place) (here_of s place)
  next place h =
      ap (foldl add_here []) (take-suc (places_of s) place End h) ∙ foldl-append add_here [] (take place (places_of s)) (here_of s place ∷ [])

  pub never_more : (place : ℕ) → length (before place) ≤ length (index_of s)
  never_more place = unfold index_of in
      let whole =
      ap (foldl add_here []) (sym (take-append-drop place (places_of s)))
      ∙ foldl-append add_here [] (take place (places_of s)) (drop place (places_of s)) in
      rw (sym whole) at (grows (before place) (drop place (places_of s)))

  pub all_before : index_of s ≡ before (length (places_of s))
  all_before = unfold index_of in ap (foldl add_here []) (sym (take_all (length (places_of s)) (places_of s) (omega arith)))

  -- a call at one of the first places
  abbrev Found : ℕ → Entry → Type 0
  Found n e = (place : ℕ) × (place < n) × CallAt s place e

  only_calls : (n : ℕ) (e : Entry) → n ≤ length (places_of s) → In e (before n) → Found n e
  only_calls zero e h i = absurd i
  only_calls (suc n) e h i =
      let below : n < length (places_of s) = omega arith in
      ⊎_elim
      (λ (j : In e (before n)). let found = only_calls n e (omega arith) j in (found.0, omega (arith, found.1), found.2))
      (λ (call : Called (address_here (here_of s n)) (callee_here (here_of s n)) e).
      (n, omega arith, record { before = below; caller = call.0 ∙ address s n below; callee = call.1 }))
      (enter_only (address_here (here_of s n)) (callee_here (here_of s n)) (before n) e (subst (In e) (next n below) i))

  all_calls : (n : ℕ) (e : Entry) → n ≤ length (places_of s) → Found n e → In e (before n)
  all_calls zero e h found = absurd (let z : ⊥ = omega (arith, found.1) in z)
  all_calls (suc n) e h found =
      let below : n < length (places_of s) = omega arith in
      let at = found.2 in
      subst (In e) (sym (next n below))
      (enter_holds (address_here (here_of s n)) (callee_here (here_of s n)) (before n) e
      (by_test (ltb found.0 n)
      (λ b. inl (all_calls n e (omega arith) (found.0, ltb-true found.0 n b, at)))
      (λ b.
      let last : found.0 ≡ n = omega (arith, ltb-false found.0 n b, found.1) in
      inr (
        at.caller ∙ ap (λ (p : ℕ). (opening_of s).base + 4 * p) last ∙ sym (address s n below),
        ap (λ (p : ℕ). callee_here (here_of s p)) (sym last) ∙ at.callee,
      ))))

  -- no entry before a place is its caller's
  pub others_before : (place : ℕ) → place < length (places_of s) → (e : Entry) → In e (before place) → e.caller ≡ address_here (here_of s place) → ⊥
  others_before place h e i own =
      let found = only_calls place e (omega arith) i in
      omega (arith, found.1, found.2.caller, own, address s place h)

  in_order : (n : ℕ) → n ≤ length (places_of s) → Ordered (before n)
  in_order zero h = tt
  in_order (suc n) h =
      let below : n < length (places_of s) = omega arith in
      subst Ordered (sym (next n below))
      (enter_ordered (address_here (here_of s n)) (callee_here (here_of s n)) (before n) (in_order n (omega arith)) (others_before n below))

  -- the index is in order, and holds exactly the calls
  pub index_ordered : Ordered (index_of s)
  index_ordered = subst Ordered (sym all_before) (in_order (length (places_of s)) (omega arith))

  pub found_in : (e : Entry) → In e (index_of s) → Found (length (places_of s)) e
  found_in e i = only_calls (length (places_of s)) e (omega arith) (subst (In e) all_before i)

  pub in_found : (e : Entry) (place : ℕ) → CallAt s place e → In e (index_of s)
  in_found e place at = subst (In e) (sym all_before) (all_calls (length (places_of s)) e (omega arith) (place, at.before, at))

  pub holds_exactly : (e : Entry) → In e (index_of s) ↔ IsCall s e
  holds_exactly e = (λ i. let found = found_in e i in is_call s found.0 e found.2, λ is. in_found e is.place (call_at s e is))

-- a call of a section with another word at a place is that word's, or was one before
module _ (s : List ℕ) (place w : ℕ) (inside : place < (opening_of s).count) where
  opening_alike : opening_of s ≡ opening_of (replaced_of s place w)
  opening_alike = ap opened_in (opened_alike s place w inside)

  as_many : length (places_of s) ≡ length (places_of (replaced_of s place w))
  as_many = how_many_lem s ∙ ap (λ (o : Opened). o.count) opening_alike ∙ sym (how_many_lem (replaced_of s place w))

  base_alike : (opening_of s).base ≡ (opening_of (replaced_of s place w)).base
  base_alike = ap (λ (o : Opened). o.base) opening_alike

  kept : (p : ℕ) (e : Entry) → (p ≡ place → ⊥) → CallAt s p e → CallAt (replaced_of s place w) p e
  kept p e apart at = record {
    before = omega (arith, at.before, as_many);
    caller = at.caller ∙ ap (λ (b : ℕ). b + 4 * p) base_alike;
    callee = ap callee_here (stays_elsewhere s place w inside p apart) ∙ at.callee;
  }

  was : (p : ℕ) (e : Entry) → (p ≡ place → ⊥) → CallAt (replaced_of s place w) p e → CallAt s p e
  was p e apart at = record {
    before = omega (arith, at.before, as_many);
    caller = at.caller ∙ ap (λ (b : ℕ). b + 4 * p) (sym base_alike);
    callee = ap callee_here (sym (stays_elsewhere s place w inside p apart)) ∙ at.callee;
  }

  -- the caller whose word is replaced, and what it calls then
  abbrev caller : ℕ
  caller = (opening_of s).base + 4 * place

  abbrev callee : Option ℕ
  callee = callee_here (here_of (replaced_of s place w) place)

  -- "If the index handed in was the one built from the old words, the updated one equals an index built afresh from the new words"
  pub updated_afresh : updated_of s place w (index_of s) ≡ index_of (replaced_of s place w)
  updated_afresh = unfold updated_of in
      same_list (update_of caller callee (index_of s)) (index_of (replaced_of s place w))
      (update_ordered caller callee (index_of s) (index_ordered s)) (index_ordered (replaced_of s place w)) there back
    where
      there : (e : Entry) → In e (update_of caller callee (index_of s)) → In e (index_of (replaced_of s place w))
      there e i =
          ⊎_elim
          (λ (old : In e (index_of s) × Other caller e).
          let found = found_in s e old.0 in
          in_found (replaced_of s place w) e found.0
          (kept found.0 e (λ same. old.1 (found.2.caller ∙ ap (λ (p : ℕ). (opening_of s).base + 4 * p) same)) found.2))
          (λ (call : Called caller callee e).
          in_found (replaced_of s place w) e place
          (record {
            before = omega (arith, as_many, how_many_lem s);
            caller = call.0 ∙ ap (λ (b : ℕ). b + 4 * place) base_alike;
            callee = call.1;
          }))
          (update_only caller callee (index_of s) e i)

      back : (e : Entry) → In e (index_of (replaced_of s place w)) → In e (update_of caller callee (index_of s))
      back e i =
          let found = found_in (replaced_of s place w) e i in
          update_holds caller callee (index_of s) e
          (by_test (eqb found.0 place)
          (λ b.
          let same = eqb-true found.0 place b in
          inr (
            found.2.caller ∙ ap (λ (n : ℕ). n + 4 * found.0) (sym base_alike) ∙ ap (λ (p : ℕ). (opening_of s).base + 4 * p) same,
            ap (λ (p : ℕ). callee_here (here_of (replaced_of s place w) p)) (sym same) ∙ found.2.callee,
          ))
          (λ b.
          let apart = eqb-false found.0 place b in
          let at = was found.0 e apart found.2 in
          inl (in_found s e found.0 at, λ own. apart (omega (arith, own, at.caller)))))
