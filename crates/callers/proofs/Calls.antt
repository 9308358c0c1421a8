-- The calls of a section: what stands at a place is one exactly if a word there has the flow of one. Assumes nothing.
use mathlib.Core.Path.{◌≡◌, refl, sym, ap, ◌∙◌}
use mathlib.Core.List.{List}
use Prim.Native.Nat.{ℕ, ◌+◌, ◌*◌, ◌<◌}
use native.Mathlib.Omega.{arith}
use lib.ListN.{length}
use Rattle.std.specs.Prelude.{Some, None, Ok, Err}
use Rattle.word.specs.Choice.{by_test}
use Rattle.word.specs.Refusal.{refused_with, not_refused}
use Rattle.insn.specs.Answer.{Decoded, insn_in}
use Rattle.insn.specs.declared.Flow.{Flow}
use Rattle.insn.specs.declared.Flow.TheVariants.{Next, Branch, CondBranch, IndirectBranch, Call, IndirectCall, Return, Trap}
use Rattle.a32.specs.Decode.{decode_of}
use Rattle.section.specs.Ranges.{is_data}
use Rattle.section.specs.Section.{ranges_of, opening_of, places_of, here_of}
use Rattle.section.specs.declared.Here.{Here}
use Rattle.section.specs.declared.Here.TheVariants.{Word, Data, End}
use Rattle.section.proofs.Places.{before_end, is_before}
use Rattle.callers_index.specs.declared.Entry.{Entry}
use Rattle.callers_index.specs.Entries.{one_of}
use Rattle.callers.specs.Calls.{flow_callee, answer_callee, callee_here, address_here, IsCall}

-- none is not some
none_at : {A : Type 0} {to : ℕ} → None ≡ Some to → A
none_at e = absurd (let z : ◌≡◌ {A = ℕ} 0 1 = ap one_of e in let y : ⊥ = omega arith in y)

-- only a call calls
only_calls : (flow : Flow) (to : ℕ) → flow_callee flow ≡ Some to → flow ≡ Call to
only_calls Next to e = none_at e
only_calls (Branch x) to e = none_at e
only_calls (CondBranch x) to e = none_at e
only_calls IndirectBranch to e = none_at e
only_calls (Call x) to e = cc
only_calls IndirectCall to e = none_at e
only_calls Return to e = none_at e
only_calls Trap to e = none_at e

-- a word that calls
record Calls (here : Here) (to : ℕ) : Type 0 where
  pub word : ℕ
  pub stands : here ≡ Word word (address_here here)
  pub named : refused_with (decode_of word (address_here here)) ≡ 0
  pub calls : (insn_in (decode_of word (address_here here))).flow ≡ Call to

answer_calls : (d : Decoded) (to : ℕ) → answer_callee d ≡ Some to → (refused_with d ≡ 0) × ((insn_in d).flow ≡ Call to)
answer_calls (Ok insn) to e = (refl, only_calls insn.flow to e)
answer_calls (Err r) to e = none_at e

call_answers : (d : Decoded) (to : ℕ) → refused_with d ≡ 0 → (insn_in d).flow ≡ Call to → answer_callee d ≡ Some to
call_answers (Ok insn) to named calls = ap flow_callee calls
call_answers (Err r) to named calls = not_refused r named

calls_so : (here : Here) (to : ℕ) → callee_here here ≡ Some to → Calls here to
calls_so (Word word address) to e =
    let is = answer_calls (decode_of word address) to e in
    record { word = word; stands = refl; named = is.0; calls = is.1 }
calls_so (Data word address) to e = none_at e
calls_so End to e = none_at e

module _ (s : List ℕ) where
  -- the address of a place
  pub address : (place : ℕ) → place < length (places_of s) → address_here (here_of s place) ≡ (opening_of s).base + 4 * place
  address place h =
      ap address_here (before_end s h)
      ∙ by_test (is_data (ranges_of s (opening_of s).ranges) place) (λ e. simp e) (λ e. simp e)

  -- a call at a place, as an index is made of it
  pub record CallAt (place : ℕ) (e : Entry) : Type 0 where
    pub before : place < length (places_of s)
    pub caller : e.caller ≡ (opening_of s).base + 4 * place
    pub callee : callee_here (here_of s place) ≡ Some e.target

  pub is_call : (place : ℕ) (e : Entry) → CallAt place e → IsCall s e
  is_call place e at =
      let so = calls_so (here_of s place) e.target at.callee in
      let own : address_here (here_of s place) ≡ e.caller = address place at.before ∙ sym at.caller in
      record {
        place = place;
        word = so.word;
        stands = so.stands ∙ ap (Word so.word) own;
        named = rw own at so.named;
        calls = rw own at so.calls;
      }

  pub call_at : (e : Entry) (is : IsCall s e) → CallAt is.place e
  call_at e is =
      let h : is.place < length (places_of s) = is_before s is.stands refl in
      record {
        before = h;
        caller = sym (ap address_here is.stands) ∙ address is.place h;
        callee = ap callee_here is.stands ∙ call_answers (decode_of is.word e.caller) e.target is.named is.calls;
      }
