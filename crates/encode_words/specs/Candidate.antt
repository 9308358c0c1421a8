-- The word that an instruction value leads to, in 32 bits and filled. Whether it has that value for its answer is for the encoder to say.
use Rattle.std.specs.Prelude.{ℕ, ◌%◌, ◌^◌}
use Rattle.insn.specs.declared.Insn.{Insn}
use Rattle.encode_home.specs.declared.Filler.{Filler}
use Rattle.encode_home.specs.Home.{fill_of}
use Rattle.encode_home.specs.Word.{word_of}

abbrev pub candidate : Filler → Insn → ℕ
candidate c i = fill_of c i (word_of i % 2 ^ 32)
