-- `words::word_of` meets its contract: its tests are those of the groups' names. Assumes nothing.
use Rattle.std.proofs.Common.{sym, ◌∙◌, le_refl, arith}
use Rattle.encode_words.proofs.Named.{between, named_address, named_dp, named_status, named_extra, named_wide, named_ldst, named_media}
use Rattle.encode_words.proofs.Named.{named_block}
use Rattle.encode_words.proofs.Named.{named_preload, named_barrier, named_halfword, named_coproc}
use Rattle.encode_dp.proofs.Chosen.{by}
use Rattle.encode_words.proofs.word_of.Goals as goal

pub returns-then-is_at : goal.returns-then-is_at
returns-then-is_at c = by c.address_word.ensures (named_address _ (sym c.is_at.ensures ∙ c.if-is_at.true))

pub returns-then-n-le-RRX : goal.returns-then-n-le-RRX
returns-then-n-le-RRX c =
    by c.dp_word.ensures (named_dp c.args.i (sym c.is_at.ensures
    ∙ c.if-is_at.false) (between 0 37 c.args.i.name (omega arith) (omega arith)))

pub returns-then-n-le-BKPT : goal.returns-then-n-le-BKPT
returns-then-n-le-BKPT c =
    by c.status_word.ensures (named_status c.args.i
    (sym c.is_at.ensures ∙ c.if-is_at.false)
    (between 38 48 c.args.i.name (omega arith) (omega arith)))

pub returns-then-n-le-LDRSH : goal.returns-then-n-le-LDRSH
returns-then-n-le-LDRSH c =
    by c.extra_word.ensures (named_extra c.args.i
    (sym c.is_at.ensures ∙ c.if-is_at.false)
    (between 49 74 c.args.i.name (omega arith) (omega arith)))

pub returns-then-n-le-SEV : goal.returns-then-n-le-SEV
returns-then-n-le-SEV c =
    by c.wide_word.ensures (named_wide c.args.i
    (sym c.is_at.ensures ∙ c.if-is_at.false)
    (between 75 81 c.args.i.name (omega arith) (omega arith)))

pub returns-then-n-le-STRBT : goal.returns-then-n-le-STRBT
returns-then-n-le-STRBT c =
    by c.ldst_word.ensures (named_ldst c.args.i
    (sym c.is_at.ensures ∙ c.if-is_at.false)
    (between 82 89 c.args.i.name (omega arith) (omega arith)))

pub returns-then-n-le-UXTAH : goal.returns-then-n-le-UXTAH
returns-then-n-le-UXTAH c =
    by c.media_word.ensures (named_media c.args.i
    (sym c.is_at.ensures
    ∙ c.if-is_at.false) (between 90 114
    c.args.i.name (omega arith) (omega arith)))

pub returns-then-n-le-PUSH : goal.returns-then-n-le-PUSH
returns-then-n-le-PUSH c =
    by c.block_word.ensures (named_block c.args.i
    (sym c.is_at.ensures
    ∙ c.if-is_at.false) (between 115 124
    c.args.i.name (omega arith) (omega arith)))

pub returns-then-n-le-PLDW : goal.returns-then-n-le-PLDW
returns-then-n-le-PLDW c =
    by c.preload_word.ensures (named_preload c.args.i
    (sym c.is_at.ensures
    ∙ c.if-is_at.false)
    (between 125 128 c.args.i.name (omega arith)
    (omega arith)))

pub returns-then-n-le-ISB : goal.returns-then-n-le-ISB
returns-then-n-le-ISB c =
    by c.barrier_word.ensures (named_barrier
    c.args.i
    (sym c.is_at.ensures
    ∙ c.if-is_at.false)
    (between 129 132 c.args.i.name (omega arith)
    (omega arith)))

pub returns-then-n-lt-MRC : goal.returns-then-n-lt-MRC
returns-then-n-lt-MRC c =
    by c.halfword_word.ensures (named_halfword
    c.args.i
    (sym c.is_at.ensures
    ∙ c.if-is_at.false)
    (between 133 148 c.args.i.name
    (omega arith) (omega arith)))

pub returns : goal.returns
returns c =
    by c.coproc_word.ensures (named_coproc
    c.args.i
    (sym c.is_at.ensures
    ∙ c.if-is_at.false) _
    (between 149 _ c.args.i.name
    (omega arith) (le_refl _)))
