-- `encode_words::fill::ones` meets its contract: the word with the field put stays within 32 bits, and so does each part of the sum. Assumes nothing.
use Rattle.std.proofs.Common.{◌≡◌, sym, ap, ◌∙◌, subst, ℕ, ◌+◌, ◌-◌, ◌*◌, ◌/◌, ◌%◌, ◌^◌, ◌<◌, ◌≤◌, mod-eq_of_lt, arith, lt-ltb, le-leb, pow_pos}
use Rattle.word.specs.Field.{put, put_small}
use Rattle.word.proofs.One.{shifted_one}
use Rattle.encode_words.proofs.fill.ones.Goals as goal

module _ (w hi lo : ℕ) (small : w < 2 ^ 32) (order : lo ≤ hi) (most : hi < 31) where
  abbrev width : ℕ
  width = hi - lo + 1

  -- the three parts
  abbrev above : ℕ
  above = w / 2 ^ (hi + 1) * 2 ^ (hi + 1)

  abbrev drawn : ℕ
  drawn = (2 ^ width - 1) * 2 ^ lo

  whole : above + (drawn + w % 2 ^ lo) ≡ put w lo width (2 ^ width - 1)
  whole = unfold put in ap (λ (e : ℕ). w / 2 ^ e * 2 ^ e + (drawn + w % 2 ^ lo)) {x = hi + 1} {y = lo + width} (omega arith)

  fits : above + (drawn + w % 2 ^ lo) < 2 ^ 32
  fits =
      subst (λ (n : ℕ). n < 2 ^ 32) (sym whole)
      (put_small w lo width (2 ^ width - 1) 32 (lt-ltb (2 ^ width - 1) (2 ^ width) (omega (arith, pow_pos width)))
      (le-leb (lo + width) 32 (omega arith)) small)

  -- as the code has them
  one : (1 * 2 ^ (hi + 1 - lo)) % 2 ^ 32 ≡ 2 ^ width
  one = shifted_one (hi + 1 - lo) (omega arith) ∙ ap (λ (e : ℕ). 2 ^ e) {x = hi + 1 - lo} {y = width} (omega arith)

  below : (1 * 2 ^ lo) % 2 ^ 32 ≡ 2 ^ lo
  below = shifted_one lo (omega arith)

  above_is : above % 2 ^ 32 ≡ above
  above_is = mod-eq_of_lt (omega (arith, fits))

  drawn_is : drawn % 2 ^ 32 ≡ drawn
  drawn_is = mod-eq_of_lt (omega (arith, fits))

  -- so each sum fits, and all is the word with the field put
  add_drawn : ((1 * 2 ^ (hi + 1 - lo)) % 2 ^ 32 - 1) * 2 ^ lo % 2 ^ 32 + w % ((1 * 2 ^ lo) % 2 ^ 32) < 2 ^ 32
  add_drawn = rw (one, below, drawn_is) (omega (arith, fits))

  together : above % 2 ^ 32 + (((1 * 2 ^ (hi + 1 - lo)) % 2 ^ 32 - 1) * 2 ^ lo % 2 ^ 32 + w % ((1 * 2 ^ lo) % 2 ^ 32)) ≡ put w lo width (2 ^ width - 1)
  together = rw (one, below, drawn_is, above_is) whole

  add_above : above % 2 ^ 32 + (((1 * 2 ^ (hi + 1 - lo)) % 2 ^ 32 - 1) * 2 ^ lo % 2 ^ 32 + w % ((1 * 2 ^ lo) % 2 ^ 32)) < 2 ^ 32
  add_above = rw (one, below, drawn_is, above_is) fits

pub overflow_add-result : goal.overflow_add-result
overflow_add-result c = record { fits = add_drawn c.args.w c.args.hi c.args.lo (omega arith) c.requires.0 c.requires.1 }

pub overflow_add-result-2 : goal.overflow_add-result-2
overflow_add-result-2 c = record { fits = add_above c.args.w c.args.hi c.args.lo (omega arith) c.requires.0 c.requires.1 }

pub returns : goal.returns
returns c = together c.args.w c.args.hi c.args.lo (omega arith) c.requires.0 c.requires.1
