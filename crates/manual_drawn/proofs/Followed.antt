-- A word and its home word that are both read as the manual reads them are read alike. Assumes nothing.
use mathlib.Core.Path.{◌≡◌, sym, ap, ◌∙◌, subst}
use Rattle.word.specs.Refusal.{refused_with}
use Prim.Native.Nat.{ℕ, ◌^◌, ◌<◌}
use Rattle.insn.specs.Answer.{Decoded}
use Rattle.a32.specs.Decode.{decode_of}
use Rattle.a32_elsewhere.proofs.Elsewhere.{refused_anywhere}
use Rattle.encode_home.specs.declared.Filler.{Filler}
use Rattle.encode_home.specs.Home.{home_of}
use Rattle.encode_home.proofs.Leads.{refusal}
use Rattle.encode_home.proofs.Same.{home_decodes}
use Rattle.manual.specs.A5.{table_row}
use Rattle.manual.specs.A8.{Said, reads, beyond, names, unlisted, undefined, unpredictable, said_of, page_of, row_of}
use Rattle.manual.specs.Departures.{Standing, follows, standing_of}
use Rattle.manual.specs.Stands.{Agrees, StandsAs}
use Rattle.manual_follows.proofs.Follows.{follows_the_manual}
use Rattle.manual_drawn.specs.HomeReads.{said_at}
use Rattle.manual_drawn.proofs.Drawn.{ranged}

-- what is said of an accepted word that stands under no departure is its answer
module _ (w addr : ℕ) (ok : refused_with (decode_of w addr) ≡ 0) where
  said_is : (said : Said) → Agrees said (decode_of w addr) → said ≡ reads (decode_of w addr)
  said_is (reads a) h = ap (λ (d : Decoded). reads d) (sym h)
  said_is (beyond t) h = absurd h
  said_is (names t) h = refusal (sym (ap (λ (d : Decoded). refused_with d) h) ∙ ok)
  said_is unlisted h = absurd h
  said_is undefined h = refusal (sym (ap (λ (d : Decoded). refused_with d) h) ∙ ok)
  said_is unpredictable h = refusal (sym (ap (λ (d : Decoded). refused_with d) h) ∙ ok)

  read_so : standing_of (row_of w) w ≡ follows → said_at w addr ≡ reads (decode_of w addr)
  read_so st = unfold row_of in
      said_is (said_of w addr (page_of (table_row w) w))
      (subst (λ (s : Standing). StandsAs s (table_row w) (page_of (table_row w) w) w addr (decode_of w addr)) (unfold row_of in st)
      (follows_the_manual w addr (ranged w (refused_anywhere w 0 addr ∙ ok))))

pub both_followed : (c : Filler) (w addr : ℕ) → w < 2 ^ 32 → refused_with (decode_of w addr) ≡ 0 → standing_of (row_of w) w ≡ follows
    → standing_of (row_of (home_of c w)) (home_of c w) ≡ follows → said_at w addr ≡ said_at (home_of c w) addr
both_followed c w addr bound ok here there =
    read_so w addr ok here
    ∙ ap (λ (d : Decoded). reads d) (sym same)
    ∙ sym (read_so (home_of c w) addr (ap (λ (d : Decoded). refused_with d) same ∙ ok) there)
  where
    same : decode_of (home_of c w) addr ≡ decode_of w addr
    same = home_decodes c w addr bound
