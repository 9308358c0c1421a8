-- A run of bytes of the image, as a part of the one that holds it (02, P11).
use Rattle.std.specs.Prelude.{not, List, [], Option, Some, None, ℕ, ◌+◌, ◌-◌, eqb, take, drop}
use Rattle.word.specs.Choice.{pick}
use Rattle.word.specs.Every.{every}
use Rattle.patch.specs.Image.{Laid, in_patch, in_section, words_refusal}
use Rattle.patch.specs.declared.Found.{Found}
use Rattle.std.specs.Prelude.{Result, Ok, Err}
use Rattle.word.specs.Refusal.{NO_RUN, refused_with, refusing}
use Rattle.word.specs.declared.refusal.Refusal.{Refusal}
use Rattle.patch.specs.declared.Found.TheVariants.{Patch, Section}

-- what is found
abbrev pub Answer : Type 0
Answer = Result Found Refusal

-- "14 exactly when the run is empty, or no single one of patch and unhidden section holds all of it"; else which of them does, and from which of its
-- bytes on
unfoldable pub held_of : Laid → Laid → ℕ → ℕ → Answer
held_of s p addr len =
    pick (eqb len 0) (refusing NO_RUN)
    (pick (every (in_patch s p) addr len) (Ok (Patch (addr - p.base)))
    (pick (every (in_section s p) addr len) (Ok (Section (addr - s.base)))
    (refusing NO_RUN)))

-- "Refusals: 7, 8 and 9 as for a section's words and base, section first and then patch"
unfoldable pub found_of : Laid → Laid → ℕ → ℕ → Answer
found_of s p addr len =
    pick (not (eqb (words_refusal s) 0)) (refusing (words_refusal s))
    (pick (not (eqb (words_refusal p) 0)) (refusing (words_refusal p))
    (held_of s p addr len))

-- "as a part of whichever of the two lent slices holds it"; "A refusal gives an empty part"
abbrev pub part_of : Laid → Laid → ℕ → Answer → List ℕ
part_of s p len (Ok (Patch place)) = take len (drop place p.words)
part_of s p len (Ok (Section place)) = take len (drop place s.words)
part_of s p len (Err r) = []

abbrev pub run_of : Laid → Laid → ℕ → ℕ → List ℕ
run_of s p addr len = part_of s p len (found_of s p addr len)

-- where the part lies in memory: in the slice that holds it, at that place of it; an empty part at the section's start
abbrev pub lies_at : ℕ × ℕ → ℕ × ℕ → Answer → ℕ × ℕ
lies_at section patch (Ok (Patch place)) = (patch.0, place + patch.1)
lies_at section patch (Ok (Section place)) = (section.0, place + section.1)
lies_at section patch (Err r) = section

-- "and a second call its number": what it is refused with, if it is, and the number, or 0
abbrev pub refused_as : Answer → Option Refusal
refused_as (Ok found) = None
refused_as (Err r) = Some r

abbrev pub run_refusal : Laid → Laid → ℕ → ℕ → ℕ
run_refusal s p addr len = refused_with (found_of s p addr len)
