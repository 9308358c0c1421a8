-- 01: "Operation 24:21; S, bit 20, adds `s` except to compares"; "Mov (13) takes the shift's name". The tables are a32.rs's.
use Rattle.std.specs.Prelude.{List, [], ◌∷◌, map, ℕ, get_or}
use Rattle.word.specs.Field.{field}
use Rattle.insn.specs.Roots.{name}
use Rattle.a32_shared.specs.Row.{by_s}

abbrev pub plain : List ℕ
plain =
    map name (
    "and" ∷ "eor" ∷ "sub" ∷ "rsb" ∷ "add" ∷ "adc" ∷ "sbc" ∷ "rsc" ∷
    "tst" ∷ "teq" ∷ "cmp" ∷ "cmn" ∷ "orr" ∷ "mov" ∷ "bic" ∷ "mvn" ∷ [])

abbrev pub setting : List ℕ
setting =
    map name (
    "ands" ∷ "eors" ∷ "subs" ∷ "rsbs" ∷ "adds" ∷ "adcs" ∷ "sbcs" ∷ "rscs" ∷
    "tst" ∷ "teq" ∷ "cmp" ∷ "cmn" ∷ "orrs" ∷ "movs" ∷ "bics" ∷ "mvns" ∷ [])

unfoldable pub dp_name : ℕ → ℕ
dp_name w = by_s w (get_or plain (field w 21 4) 0) (get_or setting (field w 21 4) 0)

unfoldable pub shift_name : ℕ → ℕ
shift_name w =
    by_s w (get_or (map name ("lsl" ∷ "lsr" ∷ "asr" ∷ "ror" ∷ [])) (field w 5 2) 0)
    (get_or (map name ("lsls" ∷ "lsrs" ∷ "asrs" ∷ "rors" ∷ [])) (field w 5 2) 0)
