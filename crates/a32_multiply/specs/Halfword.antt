-- 02, P3, "Halfword multiplies": "22:21 = 00 smla, 10 smlal, 11 smul, each with halves named by bit 5 then bit 6 (b or t); 01 with bit 5 clear smlaw,
-- set smulw, with the half of bit 6".
use Rattle.std.specs.Prelude.{[], ◌∷◌, ℕ, ◌+◌, ◌*◌, eqb}
use Rattle.word.specs.Field.{field}
use Rattle.word.specs.Choice.{pick}
use Rattle.insn.specs.Roots.{name}
use Rattle.insn.specs.Answer.{Decoded}
use Rattle.a32_shared.specs.Row.{among, ◌⇒◌}
use Rattle.a32_multiply.specs.Multiply.{product_of, adding_of, long_of}

-- from the name of the lower half on: b, then t
abbrev pub half_of : ℕ → ℕ → ℕ
half_of w name = name + field w 6 1

-- from the name of the lower halves on: bb, bt, tb, tt
abbrev pub halves_of : ℕ → ℕ → ℕ
halves_of w name = half_of w (name + field w 5 1 * 2)

-- "Fields .. as in the other multiplies"; "smlal lists 15:12 first"
abbrev pub halfword_of : ℕ → ℕ → Decoded
halfword_of w addr =
    among (field w 21 2)
    (
    0 ⇒ adding_of w addr (halves_of w (name "smlabb")) ∷
    1 ⇒ pick (eqb (field w 5 1) 0) (adding_of w addr (half_of w (name "smlawb"))) (product_of w addr (half_of w (name "smulwb"))) ∷
    2 ⇒ long_of w addr (halves_of w (name "smlalbb")) ∷
    3 ⇒ product_of w addr (halves_of w (name "smulbb")) ∷
    []
    )
