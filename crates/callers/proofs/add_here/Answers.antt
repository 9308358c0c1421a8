-- `callers::add_here` meets its contract. Assumes nothing.
use mathlib.Core.Path.{◌≡◌, sym, ap, ◌∙◌}
use mathlib.Core.List.{List}
use Prim.Native.Nat.{ℕ}
use native.Mathlib.Omega.{arith}
use lib.ListN.{length}
use Rattle.text.specs.Text.{written}
use Rattle.callers_index.specs.Entries.{entry_at, entries_of, numbers_of, enter_of, remove_of, update_of}
use Rattle.callers_index.specs.Ordered.{In}
use Rattle.callers_index.specs.declared.Entry.{Entry}
use Rattle.std.specs.Prelude.{Option}
use Rattle.callers_index.proofs.Entries.{held_already}
use Rattle.callers_index.proofs.Ordered.{none_removed}
use Rattle.section.proofs.Firsts.{so_many}
use Rattle.section.specs.declared.Here.{Here}
use Rattle.callers.specs.Calls.{callee_here, address_here, add_here}
use Rattle.callers.proofs.add_here.Goals as goal

-- where no entry is the caller's, an update is what goes in
entered : {callee : Option ℕ} {addr : ℕ} (here : Here) (l : List Entry) → callee ≡ callee_here here → addr ≡ address_here here
    → ((e : Entry) → In e l → e.caller ≡ address_here here → ⊥) → update_of addr callee l ≡ add_here l here
entered {callee} {addr} here l is at others = unfold update_of in
    ap (λ (c : Option ℕ). enter_of addr c (remove_of addr l)) is
    ∙ ap (λ (a : ℕ). enter_of a (callee_here here) (remove_of a l)) at
    ∙ ap (enter_of (address_here here) (callee_here here)) (none_removed (address_here here) l others)

pub update-requires-clause-count_in_bounds_2 : goal.update-requires-clause-count_in_bounds_2
update-requires-clause-count_in_bounds_2 c =
    let l = entries_of c.args.index.now c.args.n in
    let same = entered c.args.here l c.callee_here-callee.ensures c.addr_here.ensures c.requires.fact in
    omega (arith, c.requires.here_in_bounds, ap (λ (k : List Entry). length k) same)

pub returns-in-None-clause-value : goal.returns-in-None-clause-value
returns-in-None-clause-value c = let args = c.args in
    let l = entries_of args.index.now args.n in
    let none = sym c.callee_here-callee.ensures ∙ c.in-None.is in
    let same = ap (λ (callee : Option ℕ). enter_of (address_here args.here) callee l) none in sym (ap (λ (k : List Entry). length k) same ∙ so_many (entry_at args.index.now) args.n)

pub returns-in-None-clause-index_after : goal.returns-in-None-clause-index_after
returns-in-None-clause-index_after c = let args = c.args in
    let l = entries_of args.index.now args.n in
    let none = sym c.callee_here-callee.ensures ∙ c.in-None.is in
    let same = ap (λ (callee : Option ℕ). enter_of (address_here args.here) callee l) none in held_already args.index.now args.n c.requires.n_in_bounds
    ∙ ap (λ (k : List Entry). written args.index.now 0 (numbers_of k)) (sym same)

pub returns-in-Some-clause-value : goal.returns-in-Some-clause-value
returns-in-Some-clause-value c =
    let l = entries_of c.args.index.now c.args.n in
    let same = entered c.args.here l c.callee_here-callee.ensures c.addr_here.ensures c.requires.fact in c.update.ensures.value ∙ ap (λ (k : List Entry). length k) same

pub returns-in-Some-clause-index_after : goal.returns-in-Some-clause-index_after
returns-in-Some-clause-index_after c =
    let l = entries_of c.args.index.now c.args.n in
    let same = entered c.args.here l c.callee_here-callee.ensures c.addr_here.ensures c.requires.fact in c.update.ensures.index_after ∙ ap (λ (k : List Entry). written c.args.index.now 0 (numbers_of k)) same
