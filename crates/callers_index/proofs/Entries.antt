-- Entries and the numbers that hold them. Assumes nothing.
use mathlib.Core.Path.{◌≡◌, refl, ap, sym, ◌∙◌}
use mathlib.Core.List.{List, [], ◌∷◌, ◌++◌, append_assoc}
use Prim.Native.Nat.{ℕ, zero, suc, ◌+◌, ◌*◌, ◌-◌, ◌<◌, ◌≤◌}
use native.Mathlib.Nat.{zero-add}
use native.Mathlib.Omega.{arith}
use lib.ListN.{length, get_or, take, drop, take-append-drop}
use lib.Seq.{length-take-le, take-suc, drop-append-add, drop-drop, ext_get_or, get_or-append-add, get_or-drop}
use Rattle.text.specs.Text.{written}
use Rattle.text.specs.Put.{Put}
use Rattle.section.specs.Section.{firsts}
use Rattle.section.proofs.Firsts.{so_many, each}
use Rattle.callers_index.specs.Entries.{entry_at, entries_of, numbers_of}
use Rattle.callers_index.specs.declared.Entry.{Entry}

pub numbers_append : (l m : List Entry) → numbers_of (l ++ m) ≡ numbers_of l ++ numbers_of m
numbers_append [] m = refl
numbers_append (e ∷ l) m = ap (λ (xs : List ℕ). e.target ∷ e.caller ∷ xs) (numbers_append l m)

pub numbers_length : (l : List Entry) → length (numbers_of l) ≡ 2 * length l
numbers_length [] = refl
numbers_length (e ∷ l) = omega (arith, numbers_length l)

-- what stands behind a text that was written from the first place on is as it was
behind : {out last s : List ℕ} {next k : ℕ} → Put out 0 s next last → next ≤ k → get_or last k 0 ≡ get_or out k 0
behind {out} {s = s} {k = k} p h = unfold written in
    let at : k ≡ length s + (k - length s) = omega (arith, p.ends) in
    rw (p.holds, zero-add, at, get_or-append-add s (drop (length s) out) (k - length s) 0) (get_or-drop (length s) out (k - length s) 0)

pub entry_behind : {out last s : List ℕ} {next : ℕ} (i : ℕ) → Put out 0 s next last → next ≤ 2 * i → entry_at last i ≡ entry_at out i
entry_behind i p h = rw (behind {k = 2 * i} p h, behind {k = 2 * i + 1} p (omega arith))

-- an array that begins with the numbers of entries holds these
module _ (rest : List ℕ) where
  holds_each : (l : List Entry) (none : Entry) (i : ℕ) → i < length l → entry_at (numbers_of l ++ rest) i ≡ get_or l i none
  holds_each [] none i h = absurd (let z : ⊥ = omega arith in z)
  holds_each (e ∷ l) none zero h = refl
  holds_each (e ∷ l) none (suc i) h =
      let two : 2 * suc i ≡ suc (suc (2 * i)) = omega arith in
      let three : 2 * suc i + 1 ≡ suc (suc (2 * i + 1)) = omega arith in
      rw (three, two) (holds_each l none i (omega arith))

  pub holds_all : (l : List Entry) → entries_of (numbers_of l ++ rest) (length l) ≡ l
  holds_all l =
      let none : Entry = record { target = 0; caller = 0 } in
      let at = entry_at (numbers_of l ++ rest) in
      ext_get_or none (firsts at (length l)) l (so_many at (length l))
      (λ i h.
      let below : i < length l = omega (arith, so_many at (length l)) in
      each at none (length l) i below ∙ holds_each l none i below)

pub entries_written : (out : List ℕ) (l : List Entry) → entries_of (written out 0 (numbers_of l)) (length l) ≡ l
entries_written out l = unfold written in holds_all (drop (0 + length (numbers_of l)) out) l

-- writing the entries that an array holds changes nothing, and more entries take the place of fewer
numbers_taken : (index : List ℕ) (n : ℕ) → 2 * n ≤ length index → numbers_of (entries_of index n) ≡ take (2 * n) index
numbers_taken index zero h = refl
numbers_taken index (suc n) h =
    let two : 2 * suc n ≡ suc (suc (2 * n)) = omega arith in
    let one : 2 * n + 1 ≡ suc (2 * n) = omega arith in
    rw (two, numbers_append (entries_of index n) (entry_at index n ∷ []), numbers_taken index n (omega arith), one)
    (sym (take-suc index (suc (2 * n)) 0 (omega arith)
    ∙ ap (λ (l : List ℕ). l ++ get_or index (suc (2 * n)) 0 ∷ []) (take-suc index (2 * n) 0 (omega arith))
    ∙ append_assoc (take (2 * n) index) (get_or index (2 * n) 0 ∷ []) (get_or index (suc (2 * n)) 0 ∷ [])))

pub held_already : (index : List ℕ) (n : ℕ) → 2 * n ≤ length index → index ≡ written index 0 (numbers_of (entries_of index n))
held_already index n h = unfold written in
    rw (numbers_taken index n h, length-take-le (2 * n) index h, zero-add) (sym (take-append-drop (2 * n) index))

pub over : (out s t : List ℕ) → length s ≤ length t → written (written out 0 s) 0 t ≡ written out 0 t
over out s t h = unfold written in
    let more : length t ≡ length s + (length t - length s) = omega arith in
    rw (zero-add, zero-add)
    (ap (λ (l : List ℕ). t ++ l)
    (ap (λ (n : ℕ). drop n (s ++ drop (length s) out)) more ∙ drop-append-add s (drop (length s) out) (length t - length s)
    ∙ drop-drop (length t - length s) (length s) out ∙ ap (λ (n : ℕ). drop n out) (sym more)))
