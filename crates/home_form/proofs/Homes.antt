-- The home word of a word, from what `home_with` answers. Assumes nothing.
use Rattle.std.specs.Prelude.{◌≡◌, ℕ, eqb}
use Rattle.std.specs.Result.{result_unwrap_or}
use Rattle.word.specs.Choice.{by_test}
use Rattle.word.specs.Refusal.{refused_with}
use Rattle.a32.specs.Decode.{decode_of}
use Rattle.encode_home.specs.declared.Filler.TheVariants.{Manual}
use Rattle.encode_home.specs.Home.{home_of}
use Rattle.encode.specs.Encode.{home_answer}

pub own_or_home : (w : ℕ) → result_unwrap_or (home_answer Manual w) w ≡ home_of Manual w
own_or_home w = unfold home_of in
    by_test (eqb (refused_with (decode_of w 0)) 0)
    (λ e. simp e)
    (λ e. simp e)
