-- What is given for a run: one slice's own bytes, which are the image's; or no bytes and a number, 14 exactly if there is no run. Assumes nothing.
use mathlib.Core.Path.{◌≡◌, refl, ap, sym, ◌∙◌}
use mathlib.Core.Bool.{true≢false}
use mathlib.Core.List.{List, []}
use mathlib.Core.Logic.{◌↔◌, inl, inr, ⊎_elim}
use mathlib.Core.Option.{some}
use Prim.Native.Nat.{ℕ, ◌+◌, ◌-◌, ◌<◌, ◌≤◌}
use native.Mathlib.Omega.{arith}
use lib.ListN.{length, get_or, take, drop, length-drop}
use lib.Seq.{length-take-le, get_or-take, get_or-drop, ext_get_or}
use Rattle.patch.specs.Image.{Laid, has, byte_of, in_patch, in_section, words_refusal}
use Rattle.patch.specs.Part.{Throughout, OwnBytes, IsRun, NoRun}
use Rattle.patch.specs.Run.{part_of, run_of, run_refusal}
use Rattle.word.specs.Refusal.{numbered, not_refused, refused_with}
use Rattle.patch.proofs.Each.{each, all}
use Rattle.patch.proofs.Finds.{section_refused, patch_refused, NotHeld, by_found, lies_in, shown}
use Rattle.patch.proofs.Words.{small, told}

-- words that have each byte of a run
module _ (l : Laid) (addr len : ℕ) (more : 0 < len) (held : Throughout (has l) addr len) where
  abbrev part : List ℕ
  part = take len (drop (addr - l.base) l.words)

  fits : len ≤ length (drop (addr - l.base) l.words)
  fits = simp length-drop (omega (arith, lies_in l addr len more held))

  part_long : length part ≡ len
  part_long = length-take-le len (drop (addr - l.base) l.words) fits

  own_bytes : OwnBytes l addr len part
  own_bytes = let lies = lies_in l addr len more held in record { starts = lies.0; ends = omega arith; own = refl }

  at_address : (i : ℕ) → i < len → byte_of l (addr + i) ≡ get_or part i 0
  at_address i h =
      let lies = lies_in l addr len more held in
      ap (λ (n : ℕ). get_or l.words n 0) {x = addr + i - l.base} {y = addr - l.base + i} (omega arith)
      ∙ sym (get_or-take len (drop (addr - l.base) l.words) i 0 h ∙ get_or-drop (addr - l.base) l.words i 0)

module _ (s p : Laid) (addr len : ℕ) where
  pub is_run : run_refusal s p addr len ≡ 0 → IsRun s p addr len (run_of s p addr len)
  is_run =
      by_found s p addr len (λ found. refused_with found ≡ 0 → IsRun s p addr len (part_of s p len found))
      (λ bad none. not_refused (numbered (words_refusal s)) none)
      (λ ok bad none. not_refused (numbered (words_refusal p)) none)
      (λ ok fine not-held none. absurd (let z : ⊥ = omega arith in z))
      (λ ok fine more held none.
      let own = each (in_patch s p) len addr held in record {
        more = more;
        held = inl (own, own_bytes p addr len more own);
        long = part_long p addr len more own;
        image = λ i h. simp (own i h) (ap some (at_address p addr len more own i h));
      })
      (λ ok fine more held none.
      let shows = each (in_section s p) len addr held in
      let own : Throughout (has s) addr len = λ i h. (shown s p (addr + i) (shows i h)).1 in record {
        more = more;
        held = inr (shows, own_bytes s addr len more own);
        long = part_long s addr len more own;
        image = λ i h. simp ((shown s p (addr + i) (shows i h)).0, own i h) (ap some (at_address s addr len more own i h));
      })

  -- "A refusal gives an empty part"
  pub refused_empty : (run_refusal s p addr len ≡ 0 → ⊥) → run_of s p addr len ≡ []
  refused_empty =
      by_found s p addr len (λ found. (refused_with found ≡ 0 → ⊥) → part_of s p len found ≡ [])
      (λ bad some. refl) (λ ok bad some. refl) (λ ok fine not-held some. refl)
      (λ ok fine more held some. absurd (some refl)) (λ ok fine more held some. absurd (some refl))

  pub empty_exactly : (run_of s p addr len ≡ []) ↔ (run_refusal s p addr len ≡ 0 → ⊥)
  empty_exactly = (
    λ none ok. let run = is_run ok in omega (arith, run.more, run.long, ap length none),
    refused_empty,
  )

  -- the checks in their order
  pub section_first : (words_refusal s ≡ 0 → ⊥) → run_refusal s p addr len ≡ words_refusal s
  section_first bad = ap refused_with (section_refused s p addr len bad) ∙ told s bad

  pub then_patch : words_refusal s ≡ 0 → (words_refusal p ≡ 0 → ⊥) → run_refusal s p addr len ≡ words_refusal p
  then_patch ok bad = ap refused_with (patch_refused s p addr len ok bad) ∙ told p bad

  not_held_tells : NotHeld s p addr len → NoRun s p addr len
  not_held_tells held =
      ⊎_elim (λ none. inl none)
      (λ neither. inr (
        λ through. true≢false (sym (all (in_patch s p) len addr through) ∙ neither.0),
        λ through. true≢false (sym (all (in_section s p) len addr through) ∙ neither.1),
      ))
      held

  pub no_run_exactly : (run_refusal s p addr len ≡ 14) ↔ (words_refusal s ≡ 0) × (words_refusal p ≡ 0) × NoRun s p addr len
  no_run_exactly = (to, back)
    where
      to : run_refusal s p addr len ≡ 14 → (words_refusal s ≡ 0) × (words_refusal p ≡ 0) × NoRun s p addr len
      to =
          by_found s p addr len (λ found. refused_with found ≡ 14 → (words_refusal s ≡ 0) × (words_refusal p ≡ 0) × NoRun s p addr len)
          (λ bad is. absurd (let z : ⊥ = omega (arith, small s, told s bad) in z))
          (λ ok bad is. absurd (let z : ⊥ = omega (arith, small p, told p bad) in z))
          (λ ok fine not-held is. (ok, fine, not_held_tells not-held))
          (λ ok fine more held is. absurd (let z : ⊥ = omega arith in z))
          (λ ok fine more held is. absurd (let z : ⊥ = omega arith in z))

      back : (words_refusal s ≡ 0) × (words_refusal p ≡ 0) × NoRun s p addr len → run_refusal s p addr len ≡ 14
      back given =
          by_found s p addr len (λ found. refused_with found ≡ 14)
          (λ bad. absurd (bad given.0))
          (λ ok bad. absurd (bad given.1))
          (λ ok fine not-held. refl)
          (λ ok fine more held.
          absurd (⊎_elim (λ none. omega arith) (λ neither. neither.0 (each (in_patch s p) len addr held)) given.2))
          (λ ok fine more held.
          absurd (⊎_elim (λ none. omega arith) (λ neither. neither.1 (each (in_section s p) len addr held)) given.2))

-- no second part is the run
pub one_run : (s p : Laid) (addr len : ℕ) (part part' : List ℕ) → IsRun s p addr len part → IsRun s p addr len part' → part ≡ part'
one_run s p addr len part part' run run' =
    ext_get_or 0 part part' (run.long ∙ sym run'.long) (λ i h.
    let a = run.image i (omega (arith, run.long)) in
    let b = run'.image i (omega (arith, run.long)) in
    cc)
