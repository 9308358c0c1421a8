-- `section::here_at` meets its contract. Assumes nothing.
use mathlib.Core.Path.{◌≡◌, ap}
use mathlib.Core.List.{List}
use Prim.Native.Nat.{ℕ, ◌+◌, ◌*◌, ◌^◌, ◌<◌, ◌≤◌}
use native.Mathlib.Omega.{arith}
use lib.ListN.{length}
use Rattle.section.specs.Section.{opening_of}
use Rattle.section.specs.declared.Opened.{Opened}
use Rattle.section.proofs.Accepted.{opened}
use Rattle.section.proofs.here_at.Goals as goal

-- a place before the end
module _ (s : List ℕ) (o : Opened) (place : ℕ) (given : (o ≡ opening_of s) × (place < o.count)) where
  held : o.start + 4 * place + 4 ≤ length s
  held = omega (arith, given.1, (opened s).long, ap (λ (x : Opened). x.start) given.0, ap (λ (x : Opened). x.count) given.0)

  addressed : o.base + 4 * place < 2 ^ 32
  addressed = omega (arith, given.1, (opened s).below, ap (λ (x : Opened). x.base) given.0, ap (λ (x : Opened). x.count) given.0)

pub overflow_add-opened : goal.overflow_add-opened
overflow_add-opened c =
    record { fits = omega (arith, held c.args.bytes.now c.args.opened c.args.place c.requires) }

pub word_at-word-requires : goal.word_at-word-requires
word_at-word-requires c =
    held c.args.bytes.now c.args.opened c.args.place c.requires

pub overflow_mul-addr : goal.overflow_mul-addr
overflow_mul-addr c =
    record { fits = omega (arith, addressed c.args.bytes.now c.args.opened c.args.place c.requires) }

pub overflow_add-addr : goal.overflow_add-addr
overflow_add-addr c =
    record { fits = addressed c.args.bytes.now c.args.opened c.args.place c.requires }
