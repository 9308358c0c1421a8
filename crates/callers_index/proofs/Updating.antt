-- An update that moves each entry once makes the list of 02's steps. Assumes nothing.
use Rattle.std.specs.Prelude.{Option, Some, None}
use mathlib.Core.Path.{◌≡◌, refl, sym, ap, subst, ◌∙◌}
use mathlib.Core.List.{List, [], ◌∷◌, ◌++◌, append_assoc}
use Prim.Native.Nat.{ℕ, ◌+◌, ◌*◌, ◌≤◌}
use native.Mathlib.Omega.{arith}
use lib.Dec.{eqb}
use lib.ListN.{length, length-append}
use Rattle.word.specs.Choice.{by_test}
use Rattle.text.specs.Put.{Put}
use Rattle.text.proofs.Writing.{none, ◌then◌}
use Rattle.callers_index.specs.Entries.{numbers_of, is_before, insert_of, enter_of, one_of, remove_of, update_of}
use Rattle.callers_index.specs.Updating.{ahead_of, begin_of, first_of, rest_of, writes_of, goes_on}
use Rattle.callers_index.specs.declared.Entry.{Entry}
use Rattle.callers_index.specs.declared.Ahead.{Ahead}
use Rattle.callers_index.specs.declared.Ahead.TheVariants.{Kept, Call, Moved}
use Rattle.callers_index.proofs.Entries.{numbers_append, numbers_length}

-- what is ahead is what is written for the next entry, and what is ahead after it
one_on : (ahead : Ahead) (f : Entry) (l : List Entry) → ahead_of ahead (f ∷ l) ≡ first_of ahead f ∷ ahead_of (rest_of ahead f) l
one_on Kept f l = refl
one_on (Call e) f l = by_test (is_before e f) (λ b. simp b) (λ b. simp b)
one_on (Moved e) f l = refl

pub goes_on_lem : (caller : ℕ) (ahead : Ahead) (f : Entry) (l : List Entry)
    → ahead_of ahead (remove_of caller (f ∷ l)) ≡ writes_of caller ahead f ++ ahead_of (goes_on caller ahead f) (remove_of caller l)
goes_on_lem caller ahead f l =
    by_test (eqb f.caller caller)
    (λ b. simp b)
    (λ b. simp b (one_on ahead f (remove_of caller l)))

begins : (caller : ℕ) (callee : Option ℕ) (l : List Entry) → ahead_of (begin_of caller callee) (remove_of caller l) ≡ update_of caller callee l
begins caller None l = unfold update_of in refl
begins caller (Some target) l = unfold update_of in refl

pub leads_to : {start : Ahead} (caller : ℕ) (callee : Option ℕ) (l : List Entry) → start ≡ begin_of caller callee
    → ahead_of start (remove_of caller l) ≡ update_of caller callee l
leads_to caller callee l is = ap (λ (x : Ahead). ahead_of x (remove_of caller l)) is ∙ begins caller callee l

-- an update of the entries `all` that has written up to `at`, with `left` to be taken up
pub record Half (index₀ : List ℕ) (caller : ℕ) (start : Ahead) (all : List Entry) (ahead : Ahead) (left : List Entry) (at : ℕ)
    (index : List ℕ) : Type 0 where
  pub done : List Entry
  pub put : Put index₀ 0 (numbers_of done) at index
  pub whole : done ++ ahead_of ahead (remove_of caller left) ≡ ahead_of start (remove_of caller all)

module _ {index₀ : List ℕ} {caller : ℕ} {start : Ahead} {all : List Entry} where
  pub starts : Half index₀ caller start all start all 0 index₀
  starts = record { done = []; put = none index₀ 0; whole = refl }

  -- one entry on: f was read, and it is the next one
  pub turns : {ahead ahead' : Ahead} {e f : Entry} {left : List Entry} {at next : ℕ} {index last : List ℕ}
      → Half index₀ caller start all ahead (e ∷ left) at index → f ≡ e
      → Put index at (numbers_of (writes_of caller ahead f)) next last → ahead' ≡ goes_on caller ahead f
      → Half index₀ caller start all ahead' left next last
  turns {ahead} {ahead'} {e} {left = left} {at} {next} {index} {last} half is put on =
      let now = subst (λ (x : Entry). Put index at (numbers_of (writes_of caller ahead x)) next last) is put in
      let later : ahead' ≡ goes_on caller ahead e = on ∙ ap (goes_on caller ahead) is in
      record {
        done = half.done ++ writes_of caller ahead e;
        put = rw (numbers_append half.done (writes_of caller ahead e)) (half.put then now);
        whole = append_assoc half.done (writes_of caller ahead e) (ahead_of ahead' (remove_of caller left))
            ∙ ap (λ (x : Ahead). half.done ++ (writes_of caller ahead e ++ ahead_of x (remove_of caller left))) later
            ∙ ap (λ (x : List Entry). half.done ++ x) (sym (goes_on_lem caller ahead e left))
            ∙ half.whole;
      }

  -- no entry is left: what is ahead has room where the whole has, and with it the whole is written
  module _ {ahead : Ahead} {at : ℕ} {index : List ℕ} (half : Half index₀ caller start all ahead [] at index) where
    pub takes : at + length (numbers_of (ahead_of ahead [])) ≡ 2 * length (ahead_of start (remove_of caller all))
    takes =
        omega (
          arith,
          half.put.ends,
          numbers_length half.done,
          numbers_length (ahead_of ahead []),
          length-append half.done (ahead_of ahead []),
          ap (λ (l : List Entry). length l) half.whole,
        )

    pub ends : {next : ℕ} {last : List ℕ} → Put index at (numbers_of (ahead_of ahead [])) next last
        → Put index₀ 0 (numbers_of (ahead_of start (remove_of caller all))) next last
    ends put = rw (← half.whole, numbers_append half.done (ahead_of ahead [])) (half.put then put)

-- at most one entry is written for one
pub writes_one : (caller : ℕ) (ahead : Ahead) (f : Entry) → length (numbers_of (writes_of caller ahead f)) ≤ 2
writes_one caller ahead f = by_test (eqb f.caller caller) (λ b. simp b (omega arith)) (λ b. simp b (omega arith))

-- how many entries there are after an update
pub one_at_most : (callee : Option ℕ) → one_of callee ≤ 1
one_at_most None = omega arith
one_at_most (Some target) = omega arith

one_more : (e : Entry) (l : List Entry) → length (insert_of e l) ≡ 1 + length l
one_more e [] = refl
one_more e (f ∷ l) = by_test (is_before e f) (λ b. simp b (omega arith)) (λ b. simp b (omega (arith, one_more e l)))

pub entered_length : (caller : ℕ) (callee : Option ℕ) (l : List Entry) → length (enter_of caller callee l) ≡ one_of callee + length l
entered_length caller None l = omega arith
entered_length caller (Some target) l = one_more (record { target = target; caller = caller }) l

pub updated_length : (caller : ℕ) (callee : Option ℕ) (l : List Entry)
    → length (update_of caller callee l) ≡ one_of callee + length (remove_of caller l)
updated_length caller callee l = unfold update_of in entered_length caller callee (remove_of caller l)
