-- 01, "Proved cases", 13: "e5110000 has home e5910000; e4110000 keeps its own"; words of each field that the manual draws (02, P5); and coprocessor
-- words (02, P9).
use Rattle.std.specs.Prelude.{◌≡◌, refl, List, [], ◌∷◌, map, ℕ}
use Rattle.word.specs.Field.{field, put}
use Rattle.a32_imm.specs.Imm.{least_of}
use Rattle.a32_dp.specs.DpImm.{hint_slot}
use Rattle.a32_ldst.specs.Mem.{unprivileged_of, post_of, minus_zero_of}
use Rattle.a32_ldst.specs.Ldst.{refused_index_of, marked_of}
use Rattle.a32_transfer.specs.Unconditional.{barrier_slot}
use Rattle.a32_coproc.specs.Coproc.{floating_of}
use Rattle.a32.specs.Decode.{decode_of, group_of, dp_misc_of, plain_of, control_of, extra_of}
use Rattle.encode_home.specs.declared.Filler.TheVariants.{Manual, Zeros}
use Rattle.encode_home.specs.Home.{puts_of, home_of}

-- a word, and its home words: as the manual draws them, and with zeros
pub record Case : Type 0 where
  pub word : ℕ
  pub drawn : ℕ
  pub zeros : ℕ

abbrev case : ℕ → ℕ → ℕ → Case
case w d z = record { word = w; drawn = d; zeros = z }

abbrev pub cases : List Case
cases =
    -- ldr: bit 23 of an offset of zero is no filler
    case 0xe5110000 0xe5910000 0xe5910000 ∷
    case 0xe4110000 0xe4110000 0xe4110000 ∷
    -- bx, clz, sdiv
    case 0xe12fff1e 0xe12fff1e 0xe120001e ∷
    case 0xe16f0f10 0xe16f0f10 0xe1600010 ∷
    case 0xe710f110 0xe710f110 0xe7100110 ∷
    -- msr and mrs
    case 0xe129f000 0xe129f000 0xe1290000 ∷
    case 0xe328f000 0xe328f000 0xe3280000 ∷
    case 0xe3600000 0xe360f000 0xe3600000 ∷
    case 0xe10f0000 0xe10f0000 0xe1000000 ∷
    -- "Immediate msr with mask 0 and bit 22 clear keeps zero in 15:12"
    case 0xe3200000 0xe3200000 0xe3200000 ∷
    -- ldrex, strex, clrex
    case 0xe1900f9f 0xe1900f9f 0xe1900090 ∷
    case 0xe1800f90 0xe1800f90 0xe1800090 ∷
    case 0xf57ff01f 0xf57ff01f 0xf57ff010 ∷
    -- mcr; stc with P clear; ldc of offset 0 in each mode
    case 0xee070f9a 0xee070f9a 0xee070f9a ∷
    case 0xec800101 0xeca00101 0xeca00101 ∷
    case 0xec300100 0xecb00100 0xecb00100 ∷
    case 0xed100100 0xed900100 0xed900100 ∷
    case 0xed300100 0xedb00100 0xedb00100 ∷
    []

pub homes :
    (map (λ (c : Case). home_of Manual c.word) cases ≡ map (λ (c : Case). c.drawn) cases)
    × (map (λ (c : Case). home_of Zeros c.word) cases ≡ map (λ (c : Case). c.zeros) cases)
unfolding field put least_of hint_slot unprivileged_of post_of minus_zero_of refused_index_of marked_of barrier_slot floating_of decode_of group_of dp_misc_of plain_of
    control_of extra_of puts_of home_of
homes = (refl, refl)
