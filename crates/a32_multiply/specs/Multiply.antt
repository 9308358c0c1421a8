-- 01, "Multiply": "27:24 = 0000, 7:4 = 1001, by 23:21: mul, mla, umaal (S clear), mls (S clear), umull, umlal, smull, smlal; S (bit 20) adds `s`".
use Rattle.std.specs.Prelude.{[], ◌∷◌, ℕ, eqb}
use Rattle.word.specs.Field.{field}
use Rattle.word.specs.Choice.{pick}
use Rattle.insn.specs.Roots.{name}
use Rattle.insn.specs.Answer.{Decoded}
use Rattle.insn.specs.declared.Flow.TheVariants.{Next}
use Rattle.a32_shared.specs.Row.{among, ◌⇒◌, by_s, reg_of, answer, no_row}

-- "The long ones and umaal: 15:12, 19:16, 3:0, 11:8"
abbrev pub long_of : ℕ → ℕ → ℕ → Decoded
long_of w addr name = answer w addr name Next (reg_of w 12 ∷ reg_of w 16 ∷ reg_of w 0 ∷ reg_of w 8 ∷ [])

-- "mul: 19:16, 3:0, 11:8"
abbrev pub product_of : ℕ → ℕ → ℕ → Decoded
product_of w addr name = answer w addr name Next (reg_of w 16 ∷ reg_of w 0 ∷ reg_of w 8 ∷ [])

-- "mla and mls add 15:12"
abbrev pub adding_of : ℕ → ℕ → ℕ → Decoded
adding_of w addr name = answer w addr name Next (reg_of w 16 ∷ reg_of w 0 ∷ reg_of w 8 ∷ reg_of w 12 ∷ [])

abbrev pub clear_s : ℕ → Decoded → Decoded
clear_s w a = pick (eqb (field w 20 1) 0) a no_row

abbrev pub multiply_of : ℕ → ℕ → Decoded
multiply_of w addr =
    among (field w 21 3)
    (
    0 ⇒ product_of w addr (by_s w (name "mul") (name "muls")) ∷
    1 ⇒ adding_of w addr (by_s w (name "mla") (name "mlas")) ∷
    2 ⇒ clear_s w (long_of w addr (name "umaal")) ∷
    3 ⇒ clear_s w (adding_of w addr (name "mls")) ∷
    4 ⇒ long_of w addr (by_s w (name "umull") (name "umulls")) ∷
    5 ⇒ long_of w addr (by_s w (name "umlal") (name "umlals")) ∷
    6 ⇒ long_of w addr (by_s w (name "smull") (name "smulls")) ∷
    7 ⇒ long_of w addr (by_s w (name "smlal") (name "smlals")) ∷
    []
    )
