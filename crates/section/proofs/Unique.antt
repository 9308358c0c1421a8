-- No second result fits a contract. Each line is about the contract itself, as the check reads it from the source.
-- Assumes nothing.
use mathlib.Core.Path.{◌≡◌, refl, ap, ◌∙◌, sym}
use Rattle.word.specs.Only.{Only}
use Rattle.section.proofs.open.Reads as opening
use Rattle.section.proofs.is_end.Reads as is_end
use Rattle.section.proofs.with_word.Reads as with_word
use Rattle.section.proofs.replace.Reads as replace
use Rattle.section.proofs.read.Reads as read
use Rattle.section.proofs.reader.Section.open.Reads as section_open
use Rattle.section.proofs.reader.Section.opened.Reads as opened
use Rattle.section.proofs.reader.Section.at.Reads as at
use Rattle.section.proofs.reader.Section.bytes.Reads as bytes
use Rattle.section.specs.Section.{opened_in}
use Rattle.section.specs.declared.Step.{Step}
use Rattle.section.specs.declared.Here.{Here}
use Rattle.section.proofs.reader.ReaderIterator.next.Reads as next
use Rattle.section.proofs.reader.Section.places.Reads as places
use Rattle.std.proofs.Common.{List, [], ◌∷◌, length, get_or, arith}
use Rattle.std.specs.Prelude.{Option, Some, None, MatchOption}

pub open_only : Only opening.Post
open_only κs a r r' s s' p q = p ∙ sym q

pub is_end_only : Only is_end.Post
is_end_only κs a r r' s s' p q = p ∙ sym q

pub with_word_only : Only with_word.Post
with_word_only κs a r r' s s' p q = p ∙ sym q

pub replace_only : (κs : _) (a : _) (r r' : _) (s s' : _) → replace.Post κs a r s → replace.Post κs a r' s' → s.0.now ≡ s'.0.now
replace_only κs a r r' s s' p q = p ∙ sym q

pub read_only : Only read.Post
read_only κs a r r' s s' p q = p ∙ sym q

pub section_open_only : Only section_open.Post
section_open_only κs a r r' s s' p q = p ∙ sym q

pub opened_only : Only opened.Post
opened_only κs a r r' s s' p q = ap opened_in (sym p ∙ q)

pub at_only : Only at.Post
at_only κs a r r' s s' p q = p ∙ sym q

pub bytes_only : (κs : _) (a : _) (r r' : _) (s s' : _) → bytes.Post κs a r s → bytes.Post κs a r' s' → r.now ≡ r'.now
bytes_only κs a r r' s s' p q = p ∙ sym q

-- the first of a list is one, and a list that is empty has none
one_first : (left t t' : List Here) (x x' : Option Here)
    → MatchOption x ((left ≡ []) × (t ≡ [])) (λ here. left ≡ here ∷ t) → MatchOption x' ((left ≡ []) × (t' ≡ [])) (λ here. left ≡ here ∷ t') → x ≡ x'
one_first left t t' None None p q = refl
one_first left t t' None (Some here) p q = absurd (let z : ⊥ = omega (arith, ap length p.0, ap length q) in z)
one_first left t t' (Some here) None p q = absurd (let z : ⊥ = omega (arith, ap length p, ap length q.0) in z)
one_first left t t' (Some here) (Some here') p q = ap (λ (l : List Here). Some (get_or l 0 here)) (sym p ∙ q)

pub next_only : (κs : _) (a : _) (r r' : _) (s s' : _) → next.Post κs a r s → next.Post κs a r' s'
    → (r ≡ r') × (s.0.now.place ≡ s'.0.now.place) × (s.0.now.bytes ≡ s'.0.now.bytes)
next_only κs a r r' s s' p q = (
  one_first _ _ _ r r' p.0.0 q.0.0,
  ap (λ (x : Step). x.after) (p.0.1 ∙ sym q.0.1),
  p.0.2 ∙ sym q.0.2,
)

pub places_only : (κs : _) (a : _) (r r' : _) (s s' : _) → places.Post κs a r s → places.Post κs a r' s'
    → (r.bytes.now ≡ r'.bytes.now) × (r.place ≡ r'.place)
places_only κs a r r' s s' p q = (p.0 ∙ sym q.0, p.1 ∙ sym q.1)
