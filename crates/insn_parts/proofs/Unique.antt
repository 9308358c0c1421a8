-- No second result fits a contract. Each line is about the contract itself, as the check reads it from the source.
-- Assumes nothing.
use mathlib.Core.Path.{◌∙◌, sym}
use Rattle.word.specs.Only.{Only}
use Rattle.insn_parts.proofs.flatten.Reads as flatten
use Rattle.insn_parts.proofs.plain.Reads as plain
use Rattle.insn_parts.proofs.read.at.Reads as at
use Rattle.insn_parts.proofs.read.cond.Reads as cond
use Rattle.insn_parts.proofs.read.is_at.Reads as is_at
use Rattle.insn_parts.proofs.read.register_at.Reads as register_at
use Rattle.insn_parts.proofs.read.how_at.Reads as how_at
use Rattle.insn_parts.proofs.read.amount_at.Reads as amount_at
use Rattle.insn_parts.proofs.read.number_at.Reads as number_at
use Rattle.insn_parts.proofs.read.number.Reads as number
use Rattle.insn_parts.proofs.read.up.Reads as up
use Rattle.insn_parts.proofs.read.bit_u.Reads as bit_u
use Rattle.insn_parts.proofs.read.bit_p.Reads as bit_p
use Rattle.insn_parts.proofs.read.bit_w.Reads as bit_w
use Rattle.insn_parts.proofs.read.past.Reads as past
use Rattle.insn_parts.proofs.read.entry.Reads as entry

pub flatten_only : Only flatten.Post
flatten_only κs a r r' s s' p q = p ∙ sym q

pub plain_only : Only plain.Post
plain_only κs a r r' s s' p q = p ∙ sym q

pub at_only : Only at.Post
at_only κs a r r' s s' p q = p ∙ sym q

pub cond_only : Only cond.Post
cond_only κs a r r' s s' p q = p ∙ sym q

pub is_at_only : Only is_at.Post
is_at_only κs a r r' s s' p q = p ∙ sym q

pub register_at_only : Only register_at.Post
register_at_only κs a r r' s s' p q = p ∙ sym q

pub how_at_only : Only how_at.Post
how_at_only κs a r r' s s' p q = p ∙ sym q

pub amount_at_only : Only amount_at.Post
amount_at_only κs a r r' s s' p q = p ∙ sym q

pub number_at_only : Only number_at.Post
number_at_only κs a r r' s s' p q = p ∙ sym q

pub number_only : Only number.Post
number_only κs a r r' s s' p q = p ∙ sym q

pub up_only : Only up.Post
up_only κs a r r' s s' p q = p ∙ sym q

pub bit_u_only : Only bit_u.Post
bit_u_only κs a r r' s s' p q = p ∙ sym q

pub bit_p_only : Only bit_p.Post
bit_p_only κs a r r' s s' p q = p ∙ sym q

pub bit_w_only : Only bit_w.Post
bit_w_only κs a r r' s s' p q = p ∙ sym q

pub past_only : Only past.Post
past_only κs a r r' s s' p q = p ∙ sym q

pub entry_only : Only entry.Post
entry_only κs a r r' s s' p q = p ∙ sym q
