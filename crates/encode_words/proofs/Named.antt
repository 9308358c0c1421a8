-- The group that a name leads to. Assumes nothing.
use Rattle.std.proofs.Common.{◌≡◌, true, false, ℕ, ◌≤◌, arith, leb-true, ltb-true, le-leb, eqb, leb, ltb}
use Rattle.std.proofs.lemmas.Bool.{lt-leb}
use Rattle.word.specs.Choice.{pick, inside, parts}
use Rattle.insn.specs.Roots.{name}
use Rattle.insn.specs.declared.Insn.{Insn}
use Rattle.insn_parts.specs.Parts.{at, is_address}
use Rattle.encode_home.specs.Word.{word_of, status_word}
use Rattle.encode_home.specs.WordDp.{dp_word, wide_word}
use Rattle.encode_home.specs.WordMultiply.{halfword_word}
use Rattle.encode_home.specs.WordExtra.{extra_word}
use Rattle.encode_home.specs.WordLdst.{ldst_word}
use Rattle.encode_home.specs.WordMedia.{media_word}
use Rattle.encode_home.specs.WordTransfer.{block_word, branch_word, blx_word, preload_word, barrier_word}
use Rattle.encode_home.specs.WordCoproc.{coproc_word}

-- a name from a number on, and up to one, against another
beyond : (lo n : ℕ) → leb lo n ≡ true → (k : ℕ) → ltb k lo ≡ true → leb n k ≡ false
beyond lo n is k less = lt-leb n k (omega (arith, ltb-true k lo less, leb-true lo n is))

pub between : (lo hi n : ℕ) → lo ≤ n → n ≤ hi → inside lo hi n ≡ true
between lo hi n low high = simp (le-leb lo n low, le-leb n hi high)

-- the groups of a name
module _ (i : Insn) (plain : is_address (at i 0) ≡ false) where
  module _ (lo hi : ℕ) (is : inside lo hi i.name ≡ true) where
    after : (k : ℕ) → ltb k lo ≡ true → leb i.name k ≡ false
    after = beyond lo i.name (parts (leb lo i.name) (leb i.name hi) is).0

    within : leb i.name hi ≡ true
    within = (parts (leb lo i.name) (leb i.name hi) is).1

  pub named_dp : inside 0 37 i.name ≡ true → word_of i ≡ dp_word i
  named_dp is = unfold word_of in simp (plain, within 0 37 is)

  pub named_status : inside 38 48 i.name ≡ true → word_of i ≡ status_word i
  named_status is = unfold word_of in simp (plain, after 38 48 is, within 38 48 is)

  pub named_extra : inside 49 74 i.name ≡ true → word_of i ≡ extra_word i
  named_extra is = unfold word_of in simp (plain, after 49 74 is, within 49 74 is)

  pub named_wide : inside 75 81 i.name ≡ true → word_of i ≡ wide_word i
  named_wide is = unfold word_of in simp (plain, after 75 81 is, within 75 81 is)

  pub named_ldst : inside 82 89 i.name ≡ true → word_of i ≡ ldst_word i
  named_ldst is = unfold word_of in simp (plain, after 82 89 is, within 82 89 is)

  pub named_media : inside 90 114 i.name ≡ true → word_of i ≡ media_word i
  named_media is = unfold word_of in simp (plain, after 90 114 is, within 90 114 is)

  pub named_block : inside 115 124 i.name ≡ true → word_of i ≡ block_word i
  named_block is = unfold word_of in simp (plain, after 115 124 is, within 115 124 is)

  pub named_preload : inside 125 128 i.name ≡ true → word_of i ≡ preload_word i
  named_preload is = unfold word_of in simp (plain, after 125 128 is, within 125 128 is)

  pub named_barrier : inside 129 132 i.name ≡ true → word_of i ≡ barrier_word i
  named_barrier is = unfold word_of in simp (plain, after 129 132 is, within 129 132 is)

  pub named_halfword : inside 133 148 i.name ≡ true → word_of i ≡ halfword_word i
  named_halfword is = unfold word_of in simp (plain, after 133 148 is, within 133 148 is)

  pub named_coproc : (hi : ℕ) → inside 149 hi i.name ≡ true → word_of i ≡ coproc_word i
  named_coproc hi is = unfold word_of in simp (plain, after 149 hi is)

pub named_address : (i : Insn) → is_address (at i 0) ≡ true → word_of i ≡ pick (eqb i.name (name "blx")) (blx_word i) (branch_word i)
named_address i goes = unfold word_of in simp goes
