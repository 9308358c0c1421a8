-- "Each set and each question answers as the byte marks did, step by step": the two stores stay alike. Assumes nothing.
use mathlib.Core.Path.{◌≡◌, refl, sym, ap, ◌∙◌}
use mathlib.Core.Bool.{Bool, false, not}
use mathlib.Core.List.{List, [], ◌∷◌}
use mathlib.Core.Logic.{inl, inr}
use Prim.Native.Nat.{ℕ, zero, suc, ◌+◌, ◌-◌, ◌*◌, ◌≤◌, ◌<◌}
use native.Mathlib.Omega.{arith}
use lib.Dec.{eqb}
use lib.ListN.{length, get_or, set, replicate, length-set, length-append, get_or-append, length-replicate, replicate-append-replicate}
use lib.Seq.{set-append_left, get_or-append-add}
use Rattle.walk_marks.specs.Looking.{First}
use Rattle.walk_marks.specs.Marks.{marks_of}
use Rattle.walk_marks.specs.Stores.{Act, mark, unmark, ask, Within, byte_answers, bytes_after, byte_marks}
use Rattle.walk_marks.specs.Stores.{Ran, ended, marked, unmarked, asked, Alike}
use Rattle.walk_marks.proofs.Looking.{first_is}
use Rattle.walk_marks.proofs.Marking as marking
use Rattle.walk_marks.proofs.Marks.{no_marks}
use Rattle.walk_marks.proofs.get.Reads as getting
use Rattle.walk_marks.proofs.set.Reads as setting
use Rattle.walk_marks.proofs.unset.Reads as unsetting

length_bytes : (b : List ℕ) → length (byte_marks b) ≡ length b
length_bytes [] = refl
length_bytes (x ∷ b) = ap suc (length_bytes b)

get_or_bytes : (b : List ℕ) (p : ℕ) → get_or (byte_marks b) p false ≡ not (eqb (get_or b p 0) 0)
get_or_bytes [] p = refl
get_or_bytes (x ∷ b) zero = refl
get_or_bytes (x ∷ b) (suc p) = get_or_bytes b p

set_bytes : (b : List ℕ) (p v : ℕ) → byte_marks (set b p v) ≡ set (byte_marks b) p (not (eqb v 0))
set_bytes [] p v = refl
set_bytes (x ∷ b) zero v = refl
set_bytes (x ∷ b) (suc p) v = ap (λ (l : List Bool). not (eqb x 0) ∷ l) (set_bytes b p v)

module _ {b ws : List ℕ} (alike : Alike b ws) where
  -- a question
  asks : (p : ℕ) → p < length b → get_or (marks_of ws) p false ≡ not (eqb (get_or b p 0) 0)
  asks p h =
      ap (λ (l : List Bool). get_or l p false) alike.marks
      ∙ get_or-append (byte_marks b) _ false p (omega (arith, length_bytes b)) ∙ get_or_bytes b p

  -- a look from a place on: it ends where the bytes' ends, or behind them where that finds none
  pub looks : {p r : ℕ} → p ≤ length b → First (marks_of ws) p r
      → (r < length b → First (byte_marks b) p r) × (length b ≤ r → First (byte_marks b) p (length b))
  looks {p} {r} h f = (
    λ there. record {
      from = f.from;
      none = λ q l k. here q (omega arith) (f.none q l k);
      stops = inl (here r there (first_is f (omega (arith, longer))));
    },
    λ behind. record {
      from = h;
      none = λ q l k. here q k (f.none q l (omega arith));
      stops = inr (sym (length_bytes b));
    },
  )
    where
      longer : length b ≤ length (marks_of ws)
      longer =
          let unset = replicate (length (marks_of ws) - length b) false in
          omega (arith, ap length alike.marks, length-append (byte_marks b) unset, length_bytes b)

      here : (q : ℕ) {x : Bool} → q < length b → get_or (marks_of ws) q false ≡ x → get_or (byte_marks b) q false ≡ x
      here q k e = get_or_bytes b q ∙ sym (asks q k) ∙ e

  -- a byte that is written, and the mark that it is
  writes : (ws' : List ℕ) (p v : ℕ) → p < length b → marks_of ws' ≡ set (marks_of ws) p (not (eqb v 0)) → Alike (set b p v) ws'
  writes ws' p v h e =
      let value = not (eqb v 0) in
      record {
        marks = rw (e, length-set (marks_of ws) p value, length-set b p v, set_bytes b p v)
            (ap (λ (l : List Bool). set l p value) alike.marks ∙ set-append_left (byte_marks b) _ p value (omega (arith, length_bytes b)));
      }

  -- "with unused high bits zero": behind the bytes' places none is marked
  pub unused : (p : ℕ) → length b ≤ p → get_or (marks_of ws) p false ≡ false
  unused p h =
      let k = length (marks_of ws) - length b in
      let q = p - length b in
      let there : p ≡ length (byte_marks b) + q = omega (arith, length_bytes b) in
      ap (λ (l : List Bool). get_or l p false) alike.marks
      ∙ rw there (get_or-append-add (byte_marks b) (replicate k false) q false ∙ marking.unmarked k q)

-- through any acts on their places, two stores that are alike give the same answers, and stay alike
pub same_answers : {b ws last : List ℕ} {acts : List Act} {answers : List Bool} → Alike b ws → Within (length b) acts → Ran ws acts answers last
    → (answers ≡ byte_answers b acts) × Alike (bytes_after b acts) last
same_answers alike h ended = (refl, alike)
same_answers {b} alike h (marked {p = p} e run) = same_answers (writes alike _ p 1 h.0 e) (rw (length-set b p 1) h.1) run
same_answers {b} alike h (unmarked {p = p} e run) = same_answers (writes alike _ p 0 h.0 e) (rw (length-set b p 0) h.1) run
same_answers alike h (asked {p = p} e run) =
    let rest = same_answers alike h.1 run in
    (rw (e, asks alike p h.0, rest.0), rest.1)

no_bytes : (n : ℕ) → byte_marks (replicate n 0) ≡ replicate n false
no_bytes zero = refl
no_bytes (suc n) = ap (λ (l : List Bool). false ∷ l) (no_bytes n)

-- at first: zeros, in as many numbers as the places take or more
pub alike_at_first : (n k : ℕ) → n ≤ 32 * k → Alike (replicate n 0) (replicate k 0)
alike_at_first n k h =
    let all : n + (32 * k - n) ≡ 32 * k = omega arith in
    record {
      marks = rw (no_marks k, length-replicate (32 * k) false, length-replicate {A = ℕ} n 0, no_bytes n)
          (sym (replicate-append-replicate n (32 * k - n) false ∙ rw all));
    }

-- what meets the contracts of `set`, `unset` and `get`, as the check reads them from the source, goes through such acts
module _ {l : List Act} {answers : List Bool} {last : List ℕ} where
  pub by_set : (κs : _) (a : _) (r : _) (s : _) → setting.Post κs a r s → Ran s.0.now l answers last
      → Ran a.0.now (mark a.1.0 ∷ l) answers last
  by_set κs a r s post run = marked post run

  pub by_unset : (κs : _) (a : _) (r : _) (s : _) → unsetting.Post κs a r s → Ran s.0.now l answers last
      → Ran a.0.now (unmark a.1.0 ∷ l) answers last
  by_unset κs a r s post run = unmarked post run

  pub by_get : (κs : _) (a : _) (r : _) (s : _) → getting.Post κs a r s → Ran a.0.now l answers last
      → Ran a.0.now (ask a.1.0 ∷ l) (r ∷ answers) last
  by_get κs a r s post run = asked post run
