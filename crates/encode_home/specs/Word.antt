-- The word that an instruction value can have, put together from its name and operands. Whether it has that word is for
-- the decoder to say.
use Rattle.std.specs.Prelude.{ℕ, eqb, leb}
use Rattle.word.specs.Choice.{pick, both}
use Rattle.insn.specs.Roots.{name}
use Rattle.insn.specs.declared.Insn.{Insn}
use Rattle.insn_parts.specs.Parts.{at, is_address, is_count}
use Rattle.encode_home.specs.WordDp.{dp_word, wide_word, msr_immediate_word}
use Rattle.encode_home.specs.WordMisc.{misc_word}
use Rattle.encode_home.specs.WordMultiply.{halfword_word}
use Rattle.encode_home.specs.WordExtra.{extra_word}
use Rattle.encode_home.specs.WordLdst.{ldst_word}
use Rattle.encode_home.specs.WordMedia.{media_word}
use Rattle.encode_home.specs.WordTransfer.{block_word, branch_word, blx_word, preload_word, barrier_word}
use Rattle.encode_home.specs.WordCoproc.{coproc_word}

-- msr has one form in two groups
abbrev pub status_word : Insn → ℕ
status_word i = pick (both (eqb i.name (name "msr")) (is_count (at i 1))) (msr_immediate_word i) (misc_word i)

-- by the last name of each group, in the order of the numbers
unfoldable pub word_of : Insn → ℕ
word_of i =
    pick (is_address (at i 0)) (pick (eqb i.name (name "blx")) (blx_word i) (branch_word i))
    (pick (leb i.name (name "rrx")) (dp_word i)
    (pick (leb i.name (name "bkpt")) (status_word i)
    (pick (leb i.name (name "ldrsh")) (extra_word i)
    (pick (leb i.name (name "sev")) (wide_word i)
    (pick (leb i.name (name "strbt")) (ldst_word i)
    (pick (leb i.name (name "uxtah")) (media_word i)
    (pick (leb i.name (name "push")) (block_word i)
    (pick (leb i.name (name "pldw")) (preload_word i)
    (pick (leb i.name (name "isb")) (barrier_word i)
    (pick (leb i.name (name "smultt")) (halfword_word i) (coproc_word i)))))))))))
