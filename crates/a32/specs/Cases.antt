-- 01, "Proved cases": one table, one theorem. The home words of case 13 belong to the encoder.
use Rattle.std.specs.Prelude.{◌≡◌, refl, true, List, [], ◌∷◌, ℕ, pos, negsuc, None}
use Rattle.std.specs.Int.Count.{ones_in}
use Rattle.word.specs.Field.{field}
use Rattle.word.specs.Signed.{sext_of}
use Rattle.insn.specs.Answer.{insn_of, places, accepted, refused}
use Rattle.insn.specs.Memory.{base_disp}
use Rattle.insn.specs.Roots.{name}
use Rattle.insn.specs.Answer.{Decoded}
use Rattle.insn.specs.declared.Flow.{Flow}
use Rattle.insn.specs.declared.Flow.TheVariants.{Next, Branch, IndirectBranch, Call, Return}
use Rattle.insn.specs.declared.AddrMode.TheVariants.{PostIndex}
use Rattle.insn.specs.declared.Operand.{Operand}
use Rattle.insn.specs.declared.Operand.TheVariants.{Register, Count, Address, Memory, Option}
use Rattle.insn.specs.declared.Operand.TheVariants as Op
use Rattle.a32_shared.specs.Shifts.{plain_of, rrx_of}
use Rattle.a32_imm.specs.Imm.{so_imm_of, least_of}
use Rattle.a32_dp.specs.Names.{dp_name, shift_name}
use Rattle.a32_dp.specs.DpImm.{hint_slot}
use Rattle.a32_ldst.specs.Mem.{unprivileged_of, post_of, minus_zero_of}
use Rattle.a32_ldst.specs.Ldst as L
use Rattle.a32_transfer.specs.Block.{stack_of}
use Rattle.a32_transfer.specs.Branch.{target_from}
use Rattle.a32_transfer.specs.Unconditional.{barrier_slot, preload_slot}
use Rattle.a32.specs.Decode as D
use Rattle.a32.specs.Decode.{decode_of, group_of, dp_misc_of, control_of}

pub record Case : Type 0 where
  pub word : ℕ
  pub addr : ℕ
  pub answer : Decoded

-- an accepted word under condition 14, at 8000
abbrev always : ℕ → ℕ → Flow → List Operand → Case
always w name flow ops =
    record { word = w; addr = 0x8000; answer = accepted (insn_of 0x8000 name (record { 0 = 14 }) flow (places ops)) }

abbrev refuses : ℕ → ℕ → Case
refuses w n = record { word = w; addr = 0x8000; answer = refused n }

abbrev r : ℕ → Operand
r n = Register (record { 0 = n })

abbrev pub table : List Case
table =
    -- 1: mov r0 r0
    always 0xe1a00000 (name "mov") Next (r 0 ∷ r 0 ∷ []) ∷
    -- 2: return
    always 0xe1a0f00e (name "mov") Return (r 15 ∷ r 14 ∷ []) ∷
    -- 3: lsr count 32
    always 0xe1a00020 (name "lsr") Next (r 0 ∷ r 0 ∷ Count (pos 32) ∷ []) ∷
    -- 4: rrx
    always 0xe1a00060 (name "rrx") Next (r 0 ∷ r 0 ∷ []) ∷
    -- 5: one count 256
    always 0xe3a00c01 (name "mov") Next (r 0 ∷ Count (pos 256) ∷ []) ∷
    -- 6: two counts 1, 30
    always 0xe3a00f01 (name "mov") Next (r 0 ∷ Count (pos 1) ∷ Count (pos 30) ∷ []) ∷
    -- 7: count -16777216
    always 0xe3a004ff (name "mov") Next (r 0 ∷ Count (negsuc 16777215) ∷ []) ∷
    -- 8: cmp, indirect branch; e1500001 next
    always 0xe150f001 (name "cmp") IndirectBranch (r 0 ∷ r 1 ∷ []) ∷
    always 0xe1500001 (name "cmp") Next (r 0 ∷ r 1 ∷ []) ∷
    -- 9: bfc width 1; e7c0009f refused 3
    always 0xe7c0001f (name "bfc") Next (r 0 ∷ Count (pos 0) ∷ Count (pos 1) ∷ []) ∷
    refuses 0xe7c0009f 3 ∷
    -- 10: pop, return; e8bd0000 refused 3
    always 0xe8bd8010 (name "pop") Return (Op.List 0x8010 ∷ []) ∷
    refuses 0xe8bd0000 3 ∷
    -- 11: at fffffff8, target 0
    record {
      word = 0xea000000;
      addr = 0xfffffff8;
      answer = accepted (insn_of 0xfffffff8 (name "b") (record { 0 = 14 }) (Branch 0) (places (Address 0 ∷ [])));
    } ∷
    -- 12: at 0, target 0xa
    record {
      word = 0xfb000000;
      addr = 0;
      answer = accepted (insn_of 0 (name "blx") (record { 0 = 15 }) (Call 0xa) (places (Address 0xa ∷ [])));
    } ∷
    -- 13: e4110000 has minus zero, e5110000 has none
    always 0xe4110000 (name "ldr") Next (r 0 ∷ Memory
    (record { base = record { 0 = 1 }; index = None; disp = pos 0; mode = PostIndex; size = 4; decimal = true; minus_zero = true }) ∷ []) ∷
    always 0xe5110000 (name "ldr") Next (r 0 ∷ Memory (base_disp (record { 0 = 1 }) (pos 0) 4) ∷ []) ∷
    -- 14: dsb (02, P1)
    record {
      word = 0xf57ff04f;
      addr = 0x8000;
      answer = accepted (insn_of 0x8000 (name "dsb") (record { 0 = 15 }) Next (places (Option 15 ∷ [])));
    } ∷
    []

-- the decoder answers each case of a list as the list says
abbrev pub Answers : List Case → Type 0
Answers [] = Unit
Answers (c ∷ cs) = (decode_of c.word c.addr ≡ c.answer) × Answers cs

pub cases : Answers table
unfolding field sext_of ones_in plain_of rrx_of so_imm_of least_of dp_name shift_name hint_slot unprivileged_of post_of minus_zero_of L.refused_index_of L.marked_of
    stack_of target_from barrier_slot preload_slot decode_of group_of dp_misc_of control_of D.plain_of D.extra_of
cases =
    (refl, (refl, (refl, (refl, (refl, (refl, (refl, (refl, (refl, (refl, (refl, (refl, (refl, (refl, (refl, (refl, (refl, (refl, tt))))))))))))))))))
