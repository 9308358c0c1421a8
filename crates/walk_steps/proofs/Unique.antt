-- No second result fits a contract, as the check reads it from the source. Assumes nothing.
use mathlib.Core.Path.{◌∙◌, sym}
use Rattle.word.specs.Only.{Only}
use Rattle.walk_steps.proofs.leads_at.Reads as leads_at
use Rattle.walk_steps.proofs.place_of.Reads as place_of
use Rattle.walk_steps.proofs.next_place.Reads as next_place
use Rattle.walk_steps.proofs.runs_off.Reads as runs_off
use Rattle.walk_steps.proofs.target_place.Reads as target_place
use Rattle.walk_steps.proofs.leaves.Reads as leaves
use Rattle.walk_steps.proofs.Leads.target_addr.Reads as target_addr
use Rattle.walk_steps.proofs.Leads.enters_thumb.Reads as enters_thumb
use Rattle.walk_steps.proofs.Leads.stop_number.Reads as stop_number
use Rattle.walk_steps.proofs.here_leads.Reads as here_leads

pub leads_at_only : Only leads_at.Post
leads_at_only κs a r r' s s' p q = p ∙ sym q

pub place_of_only : Only place_of.Post
place_of_only κs a r r' s s' p q = p ∙ sym q

pub next_place_only : Only next_place.Post
next_place_only κs a r r' s s' p q = p ∙ sym q

pub runs_off_only : Only runs_off.Post
runs_off_only κs a r r' s s' p q = p ∙ sym q

pub target_place_only : Only target_place.Post
target_place_only κs a r r' s s' p q = p ∙ sym q

pub leaves_only : Only leaves.Post
leaves_only κs a r r' s s' p q = p ∙ sym q

pub target_addr_only : Only target_addr.Post
target_addr_only κs a r r' s s' p q = p ∙ sym q

pub enters_thumb_only : Only enters_thumb.Post
enters_thumb_only κs a r r' s s' p q = p ∙ sym q

pub stop_number_only : Only stop_number.Post
stop_number_only κs a r r' s s' p q = p ∙ sym q

pub here_leads_only : Only here_leads.Post
here_leads_only κs a r r' s s' p q = p ∙ sym q
