-- Kinds of titles: an array of letters holds them by the titles' numbers, and what a kind tells. Assumes nothing.
use Rattle.std.proofs.Common.{◌≡◌, ap, sym, ◌∙◌, true, false, List, ℕ, ◌+◌, ◌-◌, ◌≤◌, ◌<◌, zero-add, arith, ne_eqb, eqb, get_or}
use Prim.Native.String.{String}
use lib.Text.{eqt}
use Rattle.word.specs.Field.{field}
use Rattle.insn.specs.Numbers.{flow_number}
use Rattle.manual.specs.A5.{table_row}
use Rattle.manual.specs.A8.{row_of}
use Rattle.manual.specs.Reads.{branches_to}
use Rattle.manual_tables.specs.Titles.{title_at, Numbered}
use Rattle.manual_tables.proofs.Place.{listed, at, tests_alike}
use Rattle.manual_rows.specs.Told.{title_is}
use Rattle.manual_flows.specs.Opens.{Group, kind_among, opens}
use Rattle.manual_flows.specs.Flows.{control_as, control_of, control_number, restores}

-- the array of some groups' kinds: 0 is an a, and so on
module _ (gs : List Group) where
  abbrev pub letter : ℕ → ℕ
  letter n = 97 + kind_among (title_at n) gs

  letter_is : (n : ℕ) → n < 271 → get_or (listed letter 0 271) n 0 ≡ letter n
  letter_is n h = at letter 271 0 n h ∙ ap letter (zero-add n)

  pub some_letter : (n : ℕ) → n < 271 → 97 ≤ get_or (listed letter 0 271) n 0
  some_letter n h = rw (letter_is n h) (omega arith)

  pub kind_is : (n : ℕ) → n < 271 → get_or (listed letter 0 271) n 0 - 97 ≡ kind_among (title_at n) gs
  kind_is n h = rw (letter_is n h) (omega arith)

-- a row's title
pub mov_is : {s : String} {n : ℕ} → Numbered s n → eqt s "MOV (register, ARM)" ≡ eqb n 15
mov_is {n = n} h =
    ap (λ (t : String). eqt t "MOV (register, ARM)") (sym (title_is h))
    ∙ (unfold title_at in tests_alike (λ i. eqt (title_at i) "MOV (register, ARM)") (λ i. eqb i 15) 271 tt n h.known)

module _ (w n : ℕ) where
  pub restored : Numbered (table_row w) n → n ≡ 15 → flow_number (branches_to (field w 0 4)) ≡ flow_number (restores w 0)
  restored h e = simp (mov_is h, e)

  pub not_restored : Numbered (table_row w) n → (n ≡ 15 → ⊥) → 3 ≡ flow_number (restores w 0)
  not_restored h e = simp (mov_is h, ne_eqb n 15 e)

  module _ (row : Numbered (row_of w) n) (addr : ℕ) where
    pub unknown_is : opens (title_at n) w ≡ true → 9 ≡ control_number (control_of w addr)
    unknown_is e = unfold control_of in simp (simp (title_is row) at e)

    pub known_is : {r : ℕ} → opens (title_at n) w ≡ false → r ≡ control_number (control_as w addr (title_at n)) → r ≡ control_number (control_of w addr)
    known_is e h = unfold control_of in simp (simp (title_is row) at e) (simp (title_is row) at h)
