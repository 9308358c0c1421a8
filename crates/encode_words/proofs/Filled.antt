-- What is drawn of an instruction value, entry by entry. Assumes nothing.
use Rattle.std.proofs.Common.{◌≡◌, refl, ap, ◌∙◌, ◌⊎◌, inl, inr, Bool, true, false, List, [], ◌∷◌, ◌++◌, map, append-nil, ℕ, ◌≤◌, ◌<◌, arith, eqb-true, leb-true, le-leb, eqb, leb}
use Rattle.std.proofs.lemmas.Bool.{eqb-false}
use Rattle.word.specs.Choice.{pick, inside, by_test}
use Rattle.insn.specs.declared.Insn.{Insn}
use Rattle.encode_home.specs.Home.{gathered, puts_of, is_drawn, drawn_of}
use Rattle.encode_home.specs.Table.{Put, Entry, filled, named, ◌or◌, table}

-- what is drawn of the entries about a value is what the entries draw
abbrev drawn_entry : Entry → Entry
drawn_entry e = record { about = e.about; puts = drawn_of e.puts }

append : (ps qs : List Put) → drawn_of (ps ++ qs) ≡ drawn_of ps ++ drawn_of qs
append [] qs = refl
append (p ∷ ps) qs =
    by_test (is_drawn p.fill) (λ e. simp e (ap (λ (l : List Put). p ∷ l) (append ps qs))) (λ e. simp e (append ps qs))

picked : (b : Bool) (ps : List Put) → drawn_of (pick b ps []) ≡ pick b (drawn_of ps) []
picked true ps = refl
picked false ps = refl

by_entry : (i : Insn) (entries : List Entry) → drawn_of (gathered i entries) ≡ gathered i (map drawn_entry entries)
by_entry i [] = refl
by_entry i (entry ∷ entries) =
    append (pick (entry.about i) entry.puts []) (gathered i entries)
    ∙ ap (λ (l : List Put). l ++ drawn_of (gathered i entries)) (picked (entry.about i) entry.puts)
    ∙ ap (λ (l : List Put). pick (entry.about i) (drawn_of entry.puts) [] ++ l) (by_entry i entries)

-- an entry that draws nothing
nothing : (b : Bool) → pick {A = List Put} b [] [] ≡ []
nothing true = refl
nothing false = refl

-- a number that is not between two
outside : (lo hi n : ℕ) → (lo ≤ n → n ≤ hi → ⊥) → inside lo hi n ≡ false
outside lo hi n never =
    by_test (leb lo n)
    (λ from. by_test (leb n hi) (λ to. absurd (never (leb-true lo n from) (leb-true n hi to))) (λ beyond. simp (from, beyond)))
    (λ before. simp before)

other : (n k : ℕ) → (n ≡ k → ⊥) → inside k k n ≡ false
other n k never = outside k k n (λ from to. never (omega arith))

-- what is drawn, by the name: of mrs, of bx and bxj, of clz, of sdiv and udiv, of clrex
module _ (i : Insn) where
  pub drawn_mrs : i.name ≡ 38 → drawn_of (puts_of i) ≡ filled 19 16 ∷ []
  drawn_mrs e = unfold puts_of in simp e

  pub drawn_bx : (i.name ≡ 40) ⊎ (i.name ≡ 42) → drawn_of (puts_of i) ≡ filled 19 8 ∷ []
  drawn_bx (inl e) = unfold puts_of in simp e
  drawn_bx (inr e) = unfold puts_of in simp e

  pub drawn_clz : i.name ≡ 41 → drawn_of (puts_of i) ≡ filled 19 16 ∷ filled 11 8 ∷ []
  drawn_clz e = unfold puts_of in simp e

  pub drawn_clrex : i.name ≡ 129 → drawn_of (puts_of i) ≡ filled 3 0 ∷ []
  drawn_clrex e = unfold puts_of in simp e

  pub drawn_divide : 95 ≤ i.name → i.name < 97 → drawn_of (puts_of i) ≡ filled 15 12 ∷ []
  drawn_divide from to = unfold puts_of in
      by_test (eqb i.name 95)
      (λ e. simp (eqb-true i.name 95 e))
      (λ e. let last : (i.name ≡ 95 → ⊥) → i.name ≡ 96 = λ never. omega arith in simp (last (eqb-false i.name 95 e)))

  -- of any other name: of the exclusives, and of their loads
  abbrev exclusive : Bool
  exclusive = inside 63 68 i.name

  abbrev pub load : Bool
  load = (named "ldrex" or named "ldrexb" or named "ldrexh") i

  module _ (control : 38 ≤ i.name → i.name ≤ 43 → ⊥) (divide : 95 ≤ i.name → i.name ≤ 96 → ⊥) (clrex : i.name ≡ 129 → ⊥) where
    otherwise : drawn_of (puts_of i) ≡ pick exclusive (filled 11 8 ∷ []) [] ++ pick load (filled 3 0 ∷ []) []
    otherwise = unfold puts_of in
        by_entry i table
        ∙ simp (
          nothing,
          append-nil,
          other n 38 (λ e. control (omega arith) (omega arith)),
          other n 39 (λ e. control (omega arith) (omega arith)),
          other n 40 (λ e. control (omega arith) (omega arith)),
          other n 41 (λ e. control (omega arith) (omega arith)),
          other n 42 (λ e. control (omega arith) (omega arith)),
          other n 43 (λ e. control (omega arith) (omega arith)),
          other n 95 (λ e. divide (omega arith) (omega arith)),
          other n 96 (λ e. divide (omega arith) (omega arith)),
          other n 129 clrex,
        )
      where
        n : ℕ
        n = i.name

    -- nothing of a name that is no exclusive's
    pub undrawn : (63 ≤ i.name → i.name ≤ 68 → ⊥) → drawn_of (puts_of i) ≡ []
    undrawn never =
        otherwise
        ∙ simp (
          outside 63 68 i.name never,
          other i.name 64 (λ e. never (omega arith) (omega arith)),
          other i.name 66 (λ e. never (omega arith) (omega arith)),
          other i.name 68 (λ e. never (omega arith) (omega arith)),
        )

  module _ (from : 63 ≤ i.name) (to : i.name ≤ 68) where
    exclusively : drawn_of (puts_of i) ≡ filled 11 8 ∷ pick load (filled 3 0 ∷ []) []
    exclusively =
        otherwise (λ x y. omega arith) (λ x y. omega arith) (λ e. omega arith)
        ∙ simp (le-leb 63 i.name from, le-leb i.name 68 to)

    pub drawn_load : (i.name ≡ 64) ⊎ ((i.name ≡ 66) ⊎ (i.name ≡ 68)) → drawn_of (puts_of i) ≡ filled 11 8 ∷ filled 3 0 ∷ []
    drawn_load (inl e) = exclusively ∙ simp e
    drawn_load (inr (inl e)) = exclusively ∙ simp e
    drawn_load (inr (inr e)) = exclusively ∙ simp e

    pub drawn_store : ((i.name ≡ 64) ⊎ ((i.name ≡ 66) ⊎ (i.name ≡ 68)) → ⊥) → drawn_of (puts_of i) ≡ filled 11 8 ∷ []
    drawn_store never =
        exclusively
        ∙ simp (
          other i.name 64 (λ e. never (inl e)),
          other i.name 66 (λ e. never (inr (inl e))),
          other i.name 68 (λ e. never (inr (inr e))),
        )
