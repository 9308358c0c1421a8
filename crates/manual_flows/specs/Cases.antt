-- Words, and how control goes from each: what their pages say of them, read by hand. One table, one theorem.
use Rattle.std.specs.Prelude.{◌≡◌, refl, List, [], ◌∷◌, map, ℕ}
use Rattle.std.specs.Int.Count.{ones_in}
use Rattle.word.specs.Field.{field}
use Rattle.insn.specs.declared.Flow.TheVariants.{Next, Branch, IndirectBranch, Call, Return, Trap}
use Rattle.manual.specs.A5 as A
use Rattle.manual.specs.A8.{one_word, fewer_than_two, page_of, row_of}
use Rattle.manual_flows.specs.Opens.{opens}
use Rattle.manual_flows.specs.Flows.{Control, goes, served, unknown, control_as, control_of}

pub record Case : Type 0 where
  pub word : ℕ
  pub control : Control

infix 60 ◌does◌
abbrev ◌does◌ : ℕ → Control → Case
w does c = record { word = w; control = c }

abbrev pub table : List Case
table =
    -- words that are refused and go on: cpsid i, csdb, vpop {d8-d15}, vmrs APSR_nzcv, fpscr, mrc to the flags, mrs from a bank
    (0xf10c0080 does (goes Next)) ∷
    (0xe320f014 does (goes Next)) ∷
    (0xecbd8b10 does (goes Next)) ∷
    (0xeef1fa10 does (goes Next)) ∷
    (0xee10ff10 does (goes Next)) ∷
    (0xe1010200 does (goes Next)) ∷
    -- a destination of 15 that is UNPREDICTABLE, beside another: ldrexd, vmov from s0, vmov from d0, sadd16, vld1 with its base written back
    (0xe1b2ef9f does unknown) ∷
    (0xe1b20f9f does (goes Next)) ∷
    (0xee10fa10 does unknown) ∷
    (0xee100a10 does (goes Next)) ∷
    (0xec5f0b10 does unknown) ∷
    (0xec510b10 does (goes Next)) ∷
    (0xe610ff10 does unknown) ∷
    (0xe6100f10 does (goes Next)) ∷
    (0xf42f070d does unknown) ∷
    (0xf420070d does (goes Next)) ∷
    -- returns from exceptions: ldm sp!, {pc}^, rfeia sp!, eret; and ldm sp, {r0-lr}^, which is none
    (0xe8fd8000 does (goes Return)) ∷
    (0xf8bd0a00 does (goes Return)) ∷
    (0xe160006e does (goes Return)) ∷
    (0xe8dd7fff does (goes Next)) ∷
    -- svc, hvc, smc; bkpt, udf; what no page reads
    (0xef000000 does served) ∷
    (0xe1400070 does served) ∷
    (0xe1600070 does served) ∷
    (0xe1200070 does (goes Trap)) ∷
    (0xe7f000f0 does (goes Trap)) ∷
    (0xffffffff does unknown) ∷
    -- as the decoder: bx lr, mov pc, lr, movs pc, lr, subs pc, lr, #4, ldr pc, [sp], #4, pop {r4, pc}, b, bl at 8000
    (0xe12fff1e does (goes Return)) ∷
    (0xe1a0f00e does (goes Return)) ∷
    (0xe1b0f00e does (goes Return)) ∷
    (0xe25ef004 does (goes IndirectBranch)) ∷
    (0xe49df004 does (goes IndirectBranch)) ∷
    (0xe8bd8010 does (goes Return)) ∷
    (0xeafffffe does (goes (Branch 0x8000))) ∷
    (0xebfffffe does (goes (Call 0x8000))) ∷
    []

abbrev pub Holds : List Case → Type 0
Holds cs = map (λ c. control_of c.word 0x8000) cs ≡ map (λ c. c.control) cs

pub cases : Holds table
unfolding field ones_in A.table_row A.unconditional A.hints_and_simd A.data_processing A.data_processing_register A.data_processing_immediate A.miscellaneous
    A.msr_and_hints A.synchronization A.load_store A.media A.parallel_signed A.branch_and_block A.coprocessor one_word fewer_than_two page_of row_of opens
    control_as control_of
cases = refl
