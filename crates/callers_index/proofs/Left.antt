-- What is left of an index from an entry on: the next entry, and then the others. Assumes nothing.
use mathlib.Core.Path.{◌≡◌, refl, ap, ◌∙◌}
use mathlib.Core.List.{List, [], ◌∷◌, ◌++◌}
use Prim.Native.Nat.{ℕ, ◌+◌, ◌<◌, ◌≤◌}
use native.Mathlib.Omega.{arith}
use lib.Dec.{eqb}
use lib.ListN.{length, drop}
use mir.Val.{bool_byte}
use Rattle.std.specs.Prelude.{Option, Some, None, Bool, true, false, not, is_some}
use Rattle.word.specs.Choice.{by_test}
use Rattle.section.proofs.Firsts.{next_of, none_left}
use Rattle.callers_index.specs.Entries.{entry_at, entries_of, one_of, remove_of, callers_of}
use Rattle.callers_index.specs.declared.Entry.{Entry}

-- what a test counts
pub one_at_most : (b : Bool) → bool_byte b ≤ 1
one_at_most true = omega arith
one_at_most false = omega arith

pub one_is : (callee : Option ℕ) → bool_byte (is_some callee) ≡ one_of callee
one_is None = refl
one_is (Some target) = refl

-- the callers of a target, and how many entries stay, by the first entry and the others
callers_first : (target : ℕ) (e : Entry) (l : List Entry) → callers_of target (e ∷ l) ≡ callers_of target (e ∷ []) ++ callers_of target l
callers_first target e l = by_test (eqb e.target target) (λ b. simp b) (λ b. simp b)

hits_first : (target : ℕ) (e : Entry) (l : List Entry)
    → length (callers_of target (e ∷ l)) ≡ bool_byte (eqb e.target target) + length (callers_of target l)
hits_first target e l = by_test (eqb e.target target) (λ b. simp b (omega arith)) (λ b. simp b (omega arith))

stays_first : (caller : ℕ) (e : Entry) (l : List Entry)
    → length (remove_of caller (e ∷ l)) ≡ bool_byte (not (eqb e.caller caller)) + length (remove_of caller l)
stays_first caller e l = by_test (eqb e.caller caller) (λ b. simp b (omega arith)) (λ b. simp b (omega arith))

module _ (index : List ℕ) (count i : ℕ) where
  pub nothing_left : count ≤ i → drop i (entries_of index count) ≡ []
  nothing_left h = none_left (entry_at index) count i h

  module _ (h : i < count) where
    pub next_left : drop i (entries_of index count) ≡ entry_at index i ∷ drop (i + 1) (entries_of index count)
    next_left = next_of (entry_at index) count i h

    module _ {e : Entry} (is : e ≡ entry_at index i) (key : ℕ) where
      next_is : drop i (entries_of index count) ≡ e ∷ drop (i + 1) (entries_of index count)
      next_is = rw is next_left

      pub callers_left : callers_of key (drop i (entries_of index count))
          ≡ callers_of key (e ∷ []) ++ callers_of key (drop (i + 1) (entries_of index count))
      callers_left = ap (callers_of key) next_is ∙ callers_first key e (drop (i + 1) (entries_of index count))

      pub hits_left : length (callers_of key (drop i (entries_of index count)))
          ≡ bool_byte (eqb e.target key) + length (callers_of key (drop (i + 1) (entries_of index count)))
      hits_left = ap (λ (l : List Entry). length (callers_of key l)) next_is ∙ hits_first key e (drop (i + 1) (entries_of index count))

      pub stays_left : length (remove_of key (drop i (entries_of index count)))
          ≡ bool_byte (not (eqb e.caller key)) + length (remove_of key (drop (i + 1) (entries_of index count)))
      stays_left = ap (λ (l : List Entry). length (remove_of key l)) next_is ∙ stays_first key e (drop (i + 1) (entries_of index count))
