-- What is promised, on one page, of the contracts that the code is proved to meet: that every input is taken without fault, that the decoder follows
-- the manual, that different work has different answers, and what stands beside these. Each statement is proved in a line or two from those that
-- docs/THEOREMS.md lists. Assumes nothing.
use mathlib.Core.Path.{◌≡◌, refl, ap, sym, subst, ◌∙◌}
use Rattle.std.specs.Prelude.{Result, Ok, Err, Option, Some, None}
use Rattle.word.specs.Refusal.{number, refused_with, refusing}
use Rattle.word.specs.declared.refusal.Refusal.{Refusal}
use mathlib.Core.Bool.{true, false, not}
use mathlib.Core.List.{List, [], ◌∷◌, ◌++◌, map, Permᴰ}
use mathlib.Core.Logic.{◌↔◌, ◌⊎◌}
use Prim.Native.Nat.{ℕ, ◌+◌, ◌*◌, ◌^◌, ◌<◌, ◌≤◌}
use borrow.Author.Tests.{ne_eqb, lt-ltb, le-ltb}
use base.Fml.{Lft}
use denote.Bor.{Bor}
use denote.MutBor.{MutBor, as_bor}
use lib.ListN.{length, take, drop, get_or}
use Rattle.word.specs.Bytes.{word_at}
use Rattle.word.specs.Field.{field}
use Rattle.insn.specs.Answer.{accepted, refused, insn_in}
use Rattle.insn.specs.Answer.{Decoded}
use Rattle.insn.specs.declared.Insn.{Insn}
use Rattle.a32.specs.Decode.{decode_of, decode_bytes_of}
use Rattle.a32.proofs.Groups.{Below}
use Rattle.encode_home.specs.declared.Filler.{Filler}
use Rattle.encode_home.specs.declared.Filler.TheVariants.{Manual, Zeros}
use Rattle.encode_home.specs.Home.{home_of}
use Rattle.encode_home.specs.Alike.{Alike}
use Rattle.encode.specs.Encode.{Encoded, word_in, home_answer}
use Rattle.word_packed.specs.Packed.{packed, packed_answer}
use Rattle.section.specs.Section.{version_of, base_of, range_count, firsts, count_of, refusal_of, opened_of, opened_in, opening_of, places_of, here_of}
use Rattle.section.specs.Accepted.{Accepted}
use Rattle.section.specs.declared.Here.TheVariants.{Word as WordHere, Data}
use Rattle.section.specs.declared.Opened.{Opened}
use Rattle.section_convert.specs.Convert.{number_of, own_of, converted_of, conversion_refusal}
use Rattle.section_convert.specs.declared.Target.{Target}
use Rattle.section_convert.specs.declared.Target.TheVariants.{One, Two}
use Rattle.text.specs.Text.{bytes, decimal_of, hex_of, written}
use Rattle.text.specs.Fits.{Written, len_in}
use Rattle.line_spelling.specs.Line.{answer_text, line_text}
use Rattle.listing_text.specs.Listing.{data_line, line_here, named_here, refused_here, data_here, total, closing_of, listing_of}
use Rattle.callers_index.specs.Entries.{entries_of, found_of, left_of}
use Rattle.callers_index.specs.Ordered.{In, Ordered}
use Rattle.callers_index.specs.declared.Entry.{Entry}
use Rattle.callers.specs.Calls.{IsCall}
use Rattle.callers.specs.Index.{Indexed, updated_of, Builds, Replaces}
use Rattle.home_form.specs.Changes.{changes_of, numbers_of, is_unindexed, unindexed_among}
use Rattle.home_form.specs.HomeForm.{PutsHome}
use Rattle.home_form.specs.Kept.{Bytes, Stays, Differs, Ascending}
use Rattle.home_form.specs.Kept as Changes
use Rattle.home_form.specs.declared.Change.{Change}
use Rattle.home_form.specs.declared.Changed.{Changed}
use Rattle.walk_steps.specs.Steps.{steps_of}
use Rattle.walk.specs.Reached.{Reached}
use Rattle.walk.specs.Walk.{Walks}
use Rattle.walk.specs.Kept.{NoWayOut, Kept}
use Rattle.walk.specs.Walk as Walk
use Rattle.tally.specs.Kinds.{is_named}
use Rattle.tally.specs.Tally.{how_many, all_of, counts_of, sum, flows_of, roots_of, none_of, left_by, add_all, accepted_of, added_of}
use Rattle.tally.specs.Tally.{own_of as own_refusal, refusal_of as adding_refusal}
use Rattle.tally.specs.declared.Tally.{Tally}
use Rattle.patch.specs.Image.{Laid, ◌from◌, section_with, words_refusal}
use Rattle.patch.specs.Part.{Fit, IsRun, NoRun}
use Rattle.patch.specs.Run.{lies_at}
use Rattle.patch.specs.declared.Found.{Found}
use Rattle.patch.specs.Run.{refused_as, found_of as found_of_run}
use Rattle.patched.specs.Patched.{patched_of, patched_refusal}
use Rattle.patched.specs.Promise.{Patches}
use Rattle.promises_predicated.specs.Predicated.{under}
use Rattle.manual.specs.A5.{table_row}
use Rattle.manual.specs.A8.{row_of as page_of}
use Rattle.manual.specs.ShouldBe.{as_drawn}
use Rattle.manual_drawn.specs.HomeReads.{SaidAs, homely, said_at, unmarked}
use Rattle.manual.specs.Stands.{Stands, in_range}
use Rattle.manual_drawn.specs.Exceptions.{excepted}
use Rattle.insn_row.specs.Row.{row_of}
use Rattle.rule_runs.specs.Runs.{Program, Verdict.violated, Verdict.undecided, Verdict.holds, Judges}
use Rattle.rule_verdict.specs.Verdicts.{HOLDS, VIOLATED, UNDECIDED}
use Rattle.rule_verdict.specs.Verdicts as Rule
use Rattle.rule_verdict.specs.declared.Verdict.{Verdict}
use Rattle.brassdozen.specs.Given.{Answers, here_row, encoded_of, WalksForC, found_for_c, BuildsForC, ReplacesForC, FindsForC, PutsHomeForC, JudgesForC}
use Rattle.a32.proofs.decode as decode
use Rattle.a32.proofs.decode_bytes as decode_bytes
use Rattle.encode.proofs.encode as encode
use Rattle.encode.proofs.encode_with as encode_with
use Rattle.encode.proofs.home as home
use Rattle.encode.proofs.home_with as home_with
use Rattle.section.proofs.open as open_section
use Rattle.section_convert.proofs.convert as convert
use Rattle.line.proofs.line as line
use Rattle.listing_text.proofs.listing as listing
use Rattle.walk.proofs.walk as walk
use Rattle.tally.proofs.add as add
use Rattle.patch.proofs.find as find
use Rattle.patch.proofs.run as run
use Rattle.patch.proofs.run_refusal as run_refusal
use Rattle.patched.proofs.patched as patched
use Rattle.callers.proofs.build as build
use Rattle.callers.proofs.replace as replace
use Rattle.callers_index.proofs.callers as callers
use Rattle.home_form.proofs.home_form as home_form
use Rattle.brassdozen.proofs.brassdozen_version as c_version
use Rattle.brassdozen.proofs.brassdozen_decode as c_decode
use Rattle.brassdozen.proofs.brassdozen_decode_bytes as c_decode_bytes
use Rattle.brassdozen.proofs.brassdozen_encode as c_encode
use Rattle.brassdozen.proofs.brassdozen_encode_zeros as c_encode_zeros
use Rattle.brassdozen.proofs.brassdozen_home as c_home
use Rattle.brassdozen.proofs.brassdozen_home_zeros as c_home_zeros
use Rattle.brassdozen.proofs.brassdozen_line as c_line
use Rattle.brassdozen.proofs.brassdozen_listing as c_listing
use Rattle.brassdozen.proofs.brassdozen_place as c_place
use Rattle.brassdozen.proofs.brassdozen_to_v1 as c_to_v1
use Rattle.brassdozen.proofs.brassdozen_to_v2 as c_to_v2
use Rattle.brassdozen.proofs.brassdozen_walk as c_walk
use Rattle.brassdozen.proofs.brassdozen_tally as c_tally
use Rattle.brassdozen.proofs.brassdozen_run as c_run
use Rattle.brassdozen.proofs.brassdozen_patched as c_patched
use Rattle.brassdozen.proofs.brassdozen_index as c_index
use Rattle.brassdozen.proofs.brassdozen_replace as c_replace
use Rattle.brassdozen.proofs.brassdozen_callers as c_callers
use Rattle.brassdozen.proofs.brassdozen_home_form as c_home_form
use Rattle.brassdozen.proofs.brassdozen_judge as c_judge
use Rattle.a32_elsewhere.proofs.Elsewhere as Elsewhere
use Rattle.a32_every.proofs.Refusals as Refusals
use Rattle.encode_home.proofs.Same as Same
use Rattle.encode.proofs.Encodes as Encodes
use Rattle.section.proofs.Accepted as Sections
use Rattle.section.proofs.Places as Places
use Rattle.section_convert.proofs.Converts as Conversion
use Rattle.callers.proofs.Built as Calling
use Rattle.callers.proofs.Left as Indexing
use Rattle.home_form.proofs.Kept as HomeForms
use Rattle.home_form.proofs.Left as Homing
use Rattle.walk.proofs.Kept as Walking
use Rattle.tally.proofs.Answers as Answered
use Rattle.tally.proofs.Lent as Tallying
use Rattle.tally.proofs.Tallied as Tallied
use Rattle.tally.proofs.Sums as Sums
use Rattle.tally.proofs.Order as Order
use Rattle.patch.proofs.Runs as Runs
use Rattle.patch.proofs.Words as Words
use Rattle.patched.proofs.Patches as Patching
use Rattle.patched.proofs.Short as Patched
use Rattle.manual_follows.proofs.Follows as Follows
use Rattle.manual_drawn.proofs.Drawn as Drawn
use Rattle.manual_drawn.proofs.Homes as Homes
use Rattle.promises_differ.proofs.Alike as Differ
use Rattle.promises_predicated.proofs.ReadOnce as ReadOnce
use Rattle.line_spelling.proofs.Fits as Fits
use Rattle.listing_text.proofs.Enough as Enough
use Rattle.listing_text.proofs.Grow as Grow
use Rattle.listing_text.proofs.Example as Listed
use Rattle.brassdozen.proofs.Back as Back
use Rattle.brassdozen.proofs.Exactly as Exactly
use Rattle.brassdozen.proofs.Placed as Placed
use Rattle.rule_verdict.proofs.Unique as Judging
use Rattle.promises.proofs.Left as Left
use Rattle.promises.proofs.Unindexed as Unindexed

-- a word has 32 bits
abbrev Word : ℕ → Type 0
Word w = w < 2 ^ 32

-- what is lent to be read, and what is lent to be written: `now` is what stands in it
abbrev Slice : Type 0
Slice = Bor (List ℕ)

abbrev Lent : Type 0
Lent = MutBor (List ℕ)

-- an answer that is no refusal
abbrev Accepts : Decoded → Type 0
Accepts d = refused_with d ≡ 0

-- a function meets its contract: it is safe, ends, and gives and leaves what the contract says; and it asks nothing of its input
abbrev Taken : (Type 1 → Type 2) → {K : Type 0} {A : K → Type 0} → ((κs : K) → A κs → Type 0) → Type 2
Taken statement Asked = ((M : Type 1) → statement M) × ((κs : _) (a : _) → Asked κs a)

-- the number that a run is refused with, or 0
abbrev refusal_number : Option Refusal → ℕ
refusal_number None = 0
refusal_number (Some r) = number r

its_number : (found : Result Found Refusal) → refusal_number (refused_as found) ≡ refused_with found
its_number (Ok found) = refl
its_number (Err r) = refl

-- a text is written: its length is given, it stands at the buffer's start, and what is after it stays; or it is longer than the buffer,
-- 10 is given, and every byte stays
abbrev Puts : {A : Type 0} → (ℕ → ℕ → A) → (text before : List ℕ) → A → (after : List ℕ) → Type 0
Puts gives text before r after =
    (length text ≤ length before → (r ≡ gives 0 (length text)) × (after ≡ text ++ drop (length text) before))
    × (length before < length text → (r ≡ gives 10 0) × (after ≡ before))

-- what is given of a text: a refusal's number, or 0, and the length
abbrev given : ℕ → ℕ → ℕ × ℕ
given n len = (n, len)

abbrev told : Written → ℕ × ℕ
told r = (refused_with r, len_in r)

-- the row of an accepted answer is written so, and its refusal alone given; another answer's refusal is given, and every number stays
abbrev PutsRow : Decoded → (before : List ℕ) → ℕ → (after : List ℕ) → Type 0
PutsRow d before r after =
    (Accepts d → Puts (λ n len. n) (row_of (insn_in d)) before r after)
    × ((Accepts d → ⊥) → (r ≡ refused_with d) × (after ≡ before))

-- a section is written so if n is 0; else n, the number of a refusal, is given, and every byte stays
abbrev PutsSection : {A : Type 0} → (ℕ → ℕ → A) → (n : ℕ) (text before : List ℕ) → A → (after : List ℕ) → Type 0
PutsSection gives n text before r after =
    (n ≡ 0 → Puts gives text before r after)
    × ((n ≡ 0 → ⊥) → (r ≡ gives n 0) × (after ≡ before))

-- The contracts as relations: of what a function is given, what it gives and, of a buffer that it is lent, what it leaves there. `Post` is the
-- contract as the check reads it from the source. κ and κ' are the lifetimes of what is lent, whatever they are.
module _ (κ κ' : Lft) where
  abbrev Decodes : (w addr : ℕ) → Decoded → Type 0
  Decodes w addr d = decode.Reads.Post tt (w, (addr, tt)) d (w, (addr, tt))

  abbrev DecodesBytes : (bytes : Slice) (addr : ℕ) → Decoded → Type 0
  DecodesBytes bytes addr d = decode_bytes.Reads.Post (κ, tt) (bytes, (addr, tt)) d (bytes, (addr, tt))

  abbrev EncodesTo : Filler → Insn → Encoded → Type 0
  EncodesTo c i e = encode_with.Reads.Post tt (i, (c, tt)) e (i, (c, tt))

  abbrev EncodesByDefault : Insn → Encoded → Type 0
  EncodesByDefault i e = encode.Reads.Post tt (i, tt) e (i, tt)

  abbrev HasHome : Filler → (w : ℕ) → Encoded → Type 0
  HasHome c w h = home_with.Reads.Post tt (w, (c, tt)) h (w, (c, tt))

  abbrev HasHomeByDefault : (w : ℕ) → Encoded → Type 0
  HasHomeByDefault w h = home.Reads.Post tt (w, tt) h (w, tt)

  abbrev Opens : (bytes : Slice) → Result Opened Refusal → Type 0
  Opens bytes o = open_section.Reads.Post (κ, tt) (bytes, tt) o (bytes, tt)

  abbrev WritesLine : (addr w : ℕ) (out : Lent) → Written → (out' : Lent) → Type 0
  WritesLine addr w out r out' = line.Reads.Post (κ, tt) (addr, (w, (out, tt))) r (addr, (w, (out', tt)))

  abbrev WritesListing : (section : Slice) (out : Lent) → Written → (out' : Lent) → Type 0
  WritesListing section out r out' = listing.Reads.Post (κ, (κ', tt)) (section, (out, tt)) r (section, (out', tt))

  abbrev Converts : (section : Slice) → Target → (out : Lent) → Written → (out' : Lent) → Type 0
  Converts section target out r out' = convert.Reads.Post (κ, (κ', tt)) (section, (target, (out, tt))) r (section, (target, (out', tt)))

  abbrev WalksFrom : (section : Slice) (entry : ℕ) (out : Lent) → Walk.Answer → (out' : Lent) → Type 0
  WalksFrom section entry out r out' = walk.Reads.Post (κ, (κ', tt)) (section, (entry, (out, tt))) r (section, (entry, (out', tt)))

  abbrev Adds : (t : Tally) (section : Slice) → Result Tally Refusal → Type 0
  Adds t section r = add.Reads.Post (κ, tt) (t, (section, tt)) r (t, (section, tt))

  -- one section after the other, from one tally to another
  abbrev AddsEach : Tally → List Slice → Tally → Type 0
  AddsEach t [] t' = t' ≡ t
  AddsEach t (section ∷ sections) t' = (r : Result Tally Refusal) × Adds t section r × AddsEach (left_by t r) sections t'

  -- both slices of a run have one lifetime where a part of either is given
  abbrev FindsRun : (section : Slice) (base : ℕ) (patch : Slice) (over addr len : ℕ) → Result Found Refusal → Type 0
  FindsRun section base patch over addr len found =
      find.Reads.Post (κ, (κ', tt)) (section, (base, (patch, (over, (addr, (len, tt)))))) found (section, (base, (patch, (over, (addr, (len, tt))))))

  abbrev GivesRun : (section : Slice) (base : ℕ) (patch : Slice) (over addr len : ℕ) (part : Slice) → Type 0
  GivesRun section base patch over addr len part =
      run.Reads.Post (κ, tt) (section, (base, (patch, (over, (addr, (len, tt)))))) part (section, (base, (patch, (over, (addr, (len, tt))))))

  abbrev RefusesRun : (section : Slice) (base : ℕ) (patch : Slice) (over addr len : ℕ) → Option Refusal → Type 0
  RefusesRun section base patch over addr len refusal =
      run_refusal.Reads.Post (κ, (κ', tt)) (section, (base, (patch, (over, (addr, (len, tt)))))) refusal
      (section, (base, (patch, (over, (addr, (len, tt))))))

  abbrev WritesPatched : (section patch : Slice) (out : Lent) → Written → (out' : Lent) → Type 0
  WritesPatched section patch out r out' = patched.Reads.Post (κ, (κ', tt)) (section, (patch, (out, tt))) r (section, (patch, (out', tt)))

  abbrev BuildsIndex : (section : Slice) (index : Lent) → Indexed → (index' : Lent) → Type 0
  BuildsIndex section index r index' = build.Reads.Post (κ, (κ', tt)) (section, (index, tt)) r (section, (index', tt))

  abbrev ReplacesWord : (section : Lent) (place w : ℕ) (index : Lent) (count : ℕ) → Indexed → (section' index' : Lent) → Type 0
  ReplacesWord section place w index count r section' index' =
      replace.Reads.Post (κ, (κ', tt)) (section, (place, (w, (index, (count, tt))))) r (section', (place, (w, (index', (count, tt)))))

  abbrev FindsCallers : (index : Slice) (count target : ℕ) (out : Lent) → Written → (out' : Lent) → Type 0
  FindsCallers index count target out r out' =
      callers.Reads.Post (κ, (κ', tt)) (index, (count, (target, (out, tt)))) r (index, (count, (target, (out', tt))))

  abbrev PutsInHomeForm : (section list : Lent) → Result Changed Refusal → (section' list' : Lent) → Type 0
  PutsInHomeForm section list r section' list' = home_form.Reads.Post (κ, (κ', tt)) (section, (list, tt)) r (section', (list', tt))

  -- and those for C and Rust

  abbrev DecodesToRow : (w addr : ℕ) (row : Lent) → ℕ → (row' : Lent) → Type 0
  DecodesToRow w addr row n row' = c_decode.Reads.Post (κ, tt) (w, (addr, (row, tt))) n (w, (addr, (row', tt)))

  abbrev DecodesBytesToRow : (bytes : Slice) (addr : ℕ) (row : Lent) → ℕ → (row' : Lent) → Type 0
  DecodesBytesToRow bytes addr row n row' = c_decode_bytes.Reads.Post (κ, (κ', tt)) (bytes, (addr, (row, tt))) n (bytes, (addr, (row', tt)))

  -- by a function of its own for each filler
  abbrev EncodesRow : Filler → (row : Slice) → ℕ → Type 0
  EncodesRow Manual row p = c_encode.Reads.Post (κ, tt) (row, tt) p (row, tt)
  EncodesRow Zeros row p = c_encode_zeros.Reads.Post (κ, tt) (row, tt) p (row, tt)

  abbrev HasHomeForC : Filler → (w : ℕ) → ℕ → Type 0
  HasHomeForC Manual w p = c_home.Reads.Post tt (w, tt) p (w, tt)
  HasHomeForC Zeros w p = c_home_zeros.Reads.Post tt (w, tt) p (w, tt)

  abbrev WritesLineForC : (addr w : ℕ) (out : Lent) → ℕ → (out' : Lent) → Type 0
  WritesLineForC addr w out p out' = c_line.Reads.Post (κ, tt) (addr, (w, (out, tt))) p (addr, (w, (out', tt)))

  abbrev WritesListingForC : (section : Slice) (out : Lent) → ℕ → (out' : Lent) → Type 0
  WritesListingForC section out p out' = c_listing.Reads.Post (κ, (κ', tt)) (section, (out, tt)) p (section, (out', tt))

  abbrev GivesPlaceForC : (section : Slice) (place : ℕ) (out : Lent) → ℕ → (out' : Lent) → Type 0
  GivesPlaceForC section place out n out' = c_place.Reads.Post (κ, (κ', tt)) (section, (place, (out, tt))) n (section, (place, (out', tt)))

  abbrev ConvertsForC : Target → (section : Slice) (out : Lent) → ℕ → (out' : Lent) → Type 0
  ConvertsForC One section out p out' = c_to_v1.Reads.Post (κ, (κ', tt)) (section, (out, tt)) p (section, (out', tt))
  ConvertsForC Two section out p out' = c_to_v2.Reads.Post (κ, (κ', tt)) (section, (out, tt)) p (section, (out', tt))

  abbrev WalksFromForC : (section : Slice) (entry : ℕ) (out : Lent) → ℕ → (out' : Lent) → Type 0
  WalksFromForC section entry out p out' = c_walk.Reads.Post (κ, (κ', tt)) (section, (entry, (out, tt))) p (section, (entry, (out', tt)))

  abbrev AddsForC : (section : Slice) (counts : Lent) → ℕ → (counts' : Lent) → Type 0
  AddsForC section counts n counts' = c_tally.Reads.Post (κ, (κ', tt)) (section, (counts, tt)) n (section, (counts', tt))

  abbrev FindsRunForC : (section : Slice) (base : ℕ) (patch : Slice) (over addr len : ℕ) → ℕ → Type 0
  FindsRunForC section base patch over addr len p =
      c_run.Reads.Post (κ, (κ', tt)) (section, (base, (patch, (over, (addr, (len, tt)))))) p (section, (base, (patch, (over, (addr, (len, tt))))))

  abbrev WritesPatchedForC : (section patch : Slice) (out : Lent) → ℕ → (out' : Lent) → Type 0
  WritesPatchedForC section patch out p out' = c_patched.Reads.Post (κ, (κ', tt)) (section, (patch, (out, tt))) p (section, (patch, (out', tt)))

  abbrev BuildsIndexForC : (section : Slice) (index : Lent) → ℕ → (index' : Lent) → Type 0
  BuildsIndexForC section index p index' = c_index.Reads.Post (κ, (κ', tt)) (section, (index, tt)) p (section, (index', tt))

  abbrev ReplacesWordForC : (section : Lent) (place w : ℕ) (index : Lent) (count : ℕ) → ℕ → (section' index' : Lent) → Type 0
  ReplacesWordForC section place w index count p section' index' =
      c_replace.Reads.Post (κ, (κ', tt)) (section, (place, (w, (index, (count, tt))))) p (section', (place, (w, (index', (count, tt)))))

  abbrev FindsCallersForC : (index : Slice) (count target : ℕ) (out : Lent) → ℕ → (out' : Lent) → Type 0
  FindsCallersForC index count target out p out' =
      c_callers.Reads.Post (κ, (κ', tt)) (index, (count, (target, (out, tt)))) p (index, (count, (target, (out', tt))))

  abbrev PutsInHomeFormForC : (section list : Lent) → ℕ → (section' list' : Lent) → Type 0
  PutsInHomeFormForC section list p section' list' = c_home_form.Reads.Post (κ, (κ', tt)) (section, (list, tt)) p (section', (list', tt))

  abbrev JudgesRuleForC : (flags targets further entries : Slice) (known dist prior way : Lent) → ℕ → (known' dist' prior' way' : Lent) → Type 0
  JudgesRuleForC flags targets further entries known dist prior way p known' dist' prior' way' =
      c_judge.Reads.Post (κ, (κ, (κ, (κ, (κ', (κ', (κ', (κ', tt))))))))
      (flags, (targets, (further, (entries, (known, (dist, (prior, (way, tt)))))))) p
      (flags, (targets, (further, (entries, (known', (dist', (prior', (way', tt))))))))

  -- 1. Taken without fault.

  -- Every function takes every input.
  pub taken :
      Taken decode.Statement.statement decode.Reads.Asked
      × Taken decode_bytes.Statement.statement decode_bytes.Reads.Asked
      × Taken encode.Statement.statement encode.Reads.Asked
      × Taken encode_with.Statement.statement encode_with.Reads.Asked
      × Taken home.Statement.statement home.Reads.Asked
      × Taken home_with.Statement.statement home_with.Reads.Asked
      × Taken open_section.Statement.statement open_section.Reads.Asked
      × Taken convert.Statement.statement convert.Reads.Asked
      × Taken line.Statement.statement line.Reads.Asked
      × Taken listing.Statement.statement listing.Reads.Asked
      × Taken walk.Statement.statement walk.Reads.Asked
      × Taken add.Statement.statement add.Reads.Asked
      × Taken find.Statement.statement find.Reads.Asked
      × Taken run.Statement.statement run.Reads.Asked
      × Taken run_refusal.Statement.statement run_refusal.Reads.Asked
      × Taken patched.Statement.statement patched.Reads.Asked
      × Taken build.Statement.statement build.Reads.Asked
      × Taken replace.Statement.statement replace.Reads.Asked
      × Taken callers.Statement.statement callers.Reads.Asked
      × Taken home_form.Statement.statement home_form.Reads.Asked
      × Taken c_version.Statement.statement c_version.Reads.Asked
      × Taken c_decode.Statement.statement c_decode.Reads.Asked
      × Taken c_decode_bytes.Statement.statement c_decode_bytes.Reads.Asked
      × Taken c_encode.Statement.statement c_encode.Reads.Asked
      × Taken c_encode_zeros.Statement.statement c_encode_zeros.Reads.Asked
      × Taken c_home.Statement.statement c_home.Reads.Asked
      × Taken c_home_zeros.Statement.statement c_home_zeros.Reads.Asked
      × Taken c_line.Statement.statement c_line.Reads.Asked
      × Taken c_listing.Statement.statement c_listing.Reads.Asked
      × Taken c_place.Statement.statement c_place.Reads.Asked
      × Taken c_to_v1.Statement.statement c_to_v1.Reads.Asked
      × Taken c_to_v2.Statement.statement c_to_v2.Reads.Asked
      × Taken c_walk.Statement.statement c_walk.Reads.Asked
      × Taken c_tally.Statement.statement c_tally.Reads.Asked
      × Taken c_run.Statement.statement c_run.Reads.Asked
      × Taken c_patched.Statement.statement c_patched.Reads.Asked
      × Taken c_index.Statement.statement c_index.Reads.Asked
      × Taken c_replace.Statement.statement c_replace.Reads.Asked
      × Taken c_callers.Statement.statement c_callers.Reads.Asked
      × Taken c_home_form.Statement.statement c_home_form.Reads.Asked
      × Taken c_judge.Statement.statement c_judge.Reads.Asked
  taken = (
    (λ M. decode.Met.met, λ κs a. tt),
    (λ M. decode_bytes.Met.met, λ κs a. tt),
    (λ M. encode.Met.met, λ κs a. tt),
    (λ M. encode_with.Met.met, λ κs a. tt),
    (λ M. home.Met.met, λ κs a. tt),
    (λ M. home_with.Met.met, λ κs a. tt),
    (λ M. open_section.Met.met, λ κs a. tt),
    (λ M. convert.Met.met, λ κs a. tt),
    (λ M. line.Met.met, λ κs a. tt),
    (λ M. listing.Met.met, λ κs a. tt),
    (λ M. walk.Met.met, λ κs a. tt),
    (λ M. add.Met.met, λ κs a. tt),
    (λ M. find.Met.met, λ κs a. tt),
    (λ M. run.Met.met, λ κs a. tt),
    (λ M. run_refusal.Met.met, λ κs a. tt),
    (λ M. patched.Met.met, λ κs a. tt),
    (λ M. build.Met.met, λ κs a. tt),
    (λ M. replace.Met.met, λ κs a. tt),
    (λ M. callers.Met.met, λ κs a. tt),
    (λ M. home_form.Met.met, λ κs a. tt),
    (λ M. c_version.Met.met, λ κs a. tt),
    (λ M. c_decode.Met.met, λ κs a. tt),
    (λ M. c_decode_bytes.Met.met, λ κs a. tt),
    (λ M. c_encode.Met.met, λ κs a. tt),
    (λ M. c_encode_zeros.Met.met, λ κs a. tt),
    (λ M. c_home.Met.met, λ κs a. tt),
    (λ M. c_home_zeros.Met.met, λ κs a. tt),
    (λ M. c_line.Met.met, λ κs a. tt),
    (λ M. c_listing.Met.met, λ κs a. tt),
    (λ M. c_place.Met.met, λ κs a. tt),
    (λ M. c_to_v1.Met.met, λ κs a. tt),
    (λ M. c_to_v2.Met.met, λ κs a. tt),
    (λ M. c_walk.Met.met, λ κs a. tt),
    (λ M. c_tally.Met.met, λ κs a. tt),
    (λ M. c_run.Met.met, λ κs a. tt),
    (λ M. c_patched.Met.met, λ κs a. tt),
    (λ M. c_index.Met.met, λ κs a. tt),
    (λ M. c_replace.Met.met, λ κs a. tt),
    (λ M. c_callers.Met.met, λ κs a. tt),
    (λ M. c_home_form.Met.met, λ κs a. tt),
    (λ M. c_judge.Met.met, λ κs a. tt),
  )

  -- Fewer than four bytes are refused with 1; of more, the first four are decoded, low byte first.
  pub too_few_bytes : (bytes : Slice) (addr : ℕ) (d : Decoded) → DecodesBytes bytes addr d → length bytes.now < 4 → d ≡ refused 1
  too_few_bytes bytes addr d is few = is ∙ simp (lt-ltb _ _ few)

  pub enough_bytes : (bytes : Slice) (addr : ℕ) (d : Decoded) → DecodesBytes bytes addr d → 4 ≤ length bytes.now
      → Decodes (word_at bytes.now 0) addr d
  enough_bytes bytes addr d is four = is ∙ simp (le-ltb _ _ four)

  -- A word with a condition below 15, 27:26 = 11 and 11:8 of 10 or 11 is refused with 2, and any other that is not accepted with 3.
  pub out_of_scope : (w addr : ℕ) (d : Decoded) → Decodes w addr d → in_range w ≡ false → d ≡ refused 2
  out_of_scope w addr d is out = is ∙ Refusals.refused_out w addr out

  pub no_row : (w addr : ℕ) (d : Decoded) → Decodes w addr d → in_range w ≡ true → (Accepts d → ⊥) → d ≡ refused 3
  no_row w addr d is range bad = is ∙ Refusals.refused_within w addr range (λ ok. bad (rw is ok))

  -- A section is refused with the number of the first check that fails, in the order of documents 01 and 02, and accepted exactly if it is what they
  -- describe.
  pub refused_section : (bytes : Slice) (o : Result Opened Refusal) → Opens bytes o → refused_with o ≡ refusal_of bytes.now
  refused_section bytes o is = rw is (Sections.same_refusal bytes.now)

  pub accepted_section : (bytes : Slice) (o : Result Opened Refusal) → Opens bytes o → (refused_with o ≡ 0) ↔ Accepted bytes.now
  accepted_section bytes o is = rw (refused_section bytes o is) (Sections.accepted_exactly bytes.now)

  -- A line and a listing are written, or refused with 10, and then no byte is changed.
  pub writes_line : (addr w : ℕ) (out out' : Lent) (d : Decoded) (r : Written) → Decodes w addr d → WritesLine addr w out r out'
      → Puts given (line_text addr w d) out.now (told r) out'.now
  writes_line addr w out out' d r is wrote = rw (wrote.0, wrote.1, is) (Left.puts given told (λ a. refl) _ _)

  pub writes_listing : (section : Slice) (out out' : Lent) (r : Written) → WritesListing section out r out'
      → Puts given (listing_of section.now) out.now (told r) out'.now
  writes_listing section out out' r wrote = rw (wrote.0, wrote.1) (Left.puts given told (λ a. refl) _ _)

  -- So they are for C and Rust, with the refusal's number above the length.
  pub writes_line_for_c : (addr w : ℕ) (out out' : Lent) (d : Decoded) (p : ℕ) → Decodes w addr d → WritesLineForC addr w out p out'
      → Puts packed (line_text addr w d) out.now p out'.now
  writes_line_for_c addr w out out' d p is wrote = rw (wrote.0, wrote.1, is) (Left.puts packed packed_answer Left.packed_parts _ _)

  pub writes_listing_for_c : (section : Slice) (out out' : Lent) (p : ℕ) → WritesListingForC section out p out'
      → Puts packed (listing_of section.now) out.now p out'.now
  writes_listing_for_c section out out' p wrote = rw (wrote.0, wrote.1) (Left.puts packed packed_answer Left.packed_parts _ _)

  -- So is what stands at a place of an accepted section, as its address, the word, and 1 if it is data or else 0; from the number of its places on
  -- 13 is given. So from 0 up to there come all of its places, in order. Of another section its own number is given.
  pub gives_place : (section : Slice) (place : ℕ) (out out' : Lent) (n : ℕ) → GivesPlaceForC section place out n out'
      → (refusal_of section.now ≡ 0
      → (place < length (places_of section.now) → Puts (λ n len. n) (here_row (here_of section.now place)) out.now n out'.now)
      × (length (places_of section.now) ≤ place → (n ≡ 13) × (out'.now ≡ out.now)))
      × ((refusal_of section.now ≡ 0 → ⊥) → (n ≡ refusal_of section.now) × (out'.now ≡ out.now))
  gives_place section place out out' n gave = rw (gave.0, gave.1) (
    λ ok. (Left.puts_place section.now place out.now ok, Left.no_more section.now place out.now ok),
    λ bad. let given = Placed.given_none section.now place out.now bad in (sym given.0, sym given.1),
  )

  -- A section is converted, or refused with its own number, with 12 or with 10, and then no byte is changed.
  pub converts : (section : Slice) (target : Target) (out out' : Lent) (r : Written) → Converts section target out r out'
      → PutsSection given (conversion_refusal target section.now) (converted_of target section.now) out.now (told r) out'.now
  converts section target out out' r wrote = rw (wrote.0, wrote.1) (Left.puts_section given told (λ a. refl) target _ _)

  pub converts_for_c : (target : Target) (section : Slice) (out out' : Lent) (p : ℕ) → ConvertsForC target section out p out'
      → PutsSection packed (conversion_refusal target section.now) (converted_of target section.now) out.now p out'.now
  converts_for_c One section out out' p wrote = rw (wrote.0, wrote.1) (Left.puts_section packed packed_answer Left.packed_parts One _ _)
  converts_for_c Two section out out' p wrote = rw (wrote.0, wrote.1) (Left.puts_section packed packed_answer Left.packed_parts Two _ _)

  -- So is the row of an accepted word; of a word that is refused its number is given, and no number of what is lent is changed.
  pub writes_row : (w addr : ℕ) (row row' : Lent) (d : Decoded) (n : ℕ) → Decodes w addr d → DecodesToRow w addr row n row'
      → PutsRow d row.now n row'.now
  writes_row w addr row row' d n is wrote =
      subst (λ (x : Decoded). PutsRow x row.now n row'.now) (sym is) (rw (wrote.0, wrote.1) (Left.puts_row (decode_of w addr) row.now))

  pub writes_row_of_bytes : (bytes : Slice) (addr : ℕ) (row row' : Lent) (d : Decoded) (n : ℕ) → DecodesBytes bytes addr d
      → DecodesBytesToRow bytes addr row n row'
      → PutsRow d row.now n row'.now
  writes_row_of_bytes bytes addr row row' d n is wrote =
      subst (λ (x : Decoded). PutsRow x row.now n row'.now) (sym is)
      (rw (wrote.0, wrote.1) (Left.puts_row (decode_bytes_of bytes.now addr) row.now))

  -- 2. As the manual.

  -- The answer is the one on paper: that of the row of document 01 that the word belongs to.
  pub as_written : (w addr : ℕ) (d : Decoded) → Decodes w addr d → d ≡ decode_of w addr
  as_written w addr d is = is

  -- On every word but those with a condition below 15, 27:26 = 11 and 11:8 of 10 or 11, at every address, the answer is what the definition from the
  -- manual says, or a departure covers the word and tells the answer.
  pub follows_the_manual : (w addr : ℕ) (d : Decoded) → Decodes w addr d → in_range w ≡ true → Stands (table_row w) w addr d
  follows_the_manual w addr d is range = rw is (Follows.follows_the_manual w addr range)

  -- The encoder turns an answer back into a word with that same answer, under either filler.
  pub and_back : (c : Filler) (w addr : ℕ) (d : Decoded) (e : Encoded) → Word w → Decodes w addr d → Accepts d → EncodesTo c (insn_in d) e
      → Decodes (word_in e) addr d
  and_back c w addr d e bound is ok to =
      is ∙ sym (rw (to, is, Encodes.encodes_home c w addr bound (rw (← is) ok)) (Same.home_decodes c w addr bound))

  -- 3. Different work, different answers, under either filler of home words.

  -- At one address two accepted words get equal answers exactly if the table of ignored bits gives them one home word.
  pub same_answer : (c : Filler) (w v addr : ℕ) (d d' : Decoded) → Word w → Word v → Decodes w addr d → Decodes v addr d' → Accepts d → Accepts d'
      → (d ≡ d') ↔ (home_of c w ≡ home_of c v)
  same_answer c w v addr d d' bound bound' is is' ok ok' = rw (is, is') (Same.same_answer c w v addr bound bound' (rw (← is) ok) (rw (← is') ok'))

  -- Encoding an answer gives that home word.
  pub encodes_home : (c : Filler) (w addr : ℕ) (d : Decoded) (e : Encoded) → Word w → Decodes w addr d → Accepts d → EncodesTo c (insn_in d) e
      → e ≡ Ok (home_of c w)
  encodes_home c w addr d e bound is ok to = rw (to, is) (Encodes.encodes_home c w addr bound (rw (← is) ok))

  -- So does `home`; of a refused word it gives the refusal.
  pub home_word : (c : Filler) (w addr : ℕ) (d : Decoded) (h : Encoded) → Decodes w addr d → HasHome c w h
      → (Accepts d → h ≡ Ok (home_of c w)) × ((Accepts d → ⊥) → (refused_with h ≡ refused_with d) × (word_in h ≡ 0))
  home_word c w addr d h is has = (
    λ ok. has ∙ simp (at_zero, ok),
    λ refused.
        let is_refused : h ≡ refusing (refused_with d) = has ∙ simp (at_zero, ne_eqb (refused_with d) 0 refused) in
        (ap (λ (e : Encoded). refused_with e) is_refused ∙ Left.refused_alike ℕ d refused, ap word_in is_refused),
  )
    where
      at_zero : refused_with (decode_of w 0) ≡ refused_with d
      at_zero = rw is (Elsewhere.refused_anywhere w 0 addr)

  -- The default fills as the manual draws.
  pub by_default : (i : Insn) (w : ℕ) (e h : Encoded)
      → (EncodesByDefault i e ↔ EncodesTo Manual i e) × (HasHomeByDefault w h ↔ HasHome Manual w h)
  by_default i w e h = ((λ is. is, λ is. is), (λ is. is, λ is. is))

  -- A word's home words decode alike, and each is the home of the other, under its own filler.
  pub homes_alike : (c c' : Filler) (w addr : ℕ) (d : Decoded) → Word w → Decodes w addr d → Accepts d
      → Decodes (home_of c w) addr d × (home_of c (home_of c' w) ≡ home_of c w)
  homes_alike c c' w addr d bound is ok = (is ∙ sym (Same.home_decodes c w addr bound), Same.home_home c c' w addr bound (rw (← is) ok))

  -- The default is as drawn: the bits that a word's page draws in parentheses are so in its home word, but for the exceptions, in which they are not.
  pub as_drawn_lem : (w addr : ℕ) (d : Decoded) (h : Encoded) → Decodes w addr d → Accepts d → HasHome Manual w h
      → as_drawn (page_of w) (word_in h) ≡ not (excepted w)
  as_drawn_lem w addr d h is ok has = rw ((home_word Manual w addr d h is has).0 ok) (Drawn.home_as_drawn w addr (rw (← is) ok))

  -- And it does the same work: what the manual says of a word it says of its home word, but for the mark of minus zero, which is lost there, and for
  -- the unindexed form of a coprocessor's load or store, whose home word writes the base back.
  pub same_work : (c : Filler) (w addr : ℕ) (d : Decoded) (h : Encoded) → w < 2 ^ 32 → Decodes w addr d → Accepts d → HasHome c w h
      → SaidAs (homely w) (said_at w addr) (said_at (word_in h) addr)
  same_work c w addr d h bound is ok has = rw ((home_word c w addr d h is has).0 ok) (Homes.home_reads c w addr bound (rw (← is) ok))

  pub home_word_for_c : (c : Filler) (w p : ℕ) (h : Encoded) → HasHome c w h → HasHomeForC c w p → p ≡ packed (refused_with h) (word_in h)
  home_word_for_c Manual w p h has is = rw has (is ∙ Left.packed_word (home_answer Manual w))
  home_word_for_c Zeros w p h has is = rw has (is ∙ Left.packed_word (home_answer Zeros w))

  -- An instruction value is refused, with 4, exactly if no word decodes to it at its address; and else a word that does is given.
  pub refuses_exactly : (c : Filler) (i : Insn) (e : Encoded) → EncodesTo c i e
      → (refused_with e ≡ 4) ↔ ((w : ℕ) → Word w → Decodes w i.addr (accepted i) → ⊥)
  refuses_exactly c i e to =
      let exactly = Encodes.refuses_exactly c i in
      rw to (λ four w bound has. exactly.0 four w bound (sym has), λ none. exactly.1 (λ w bound has. none w bound (sym has)))

  pub gives : (c : Filler) (i : Insn) (e : Encoded) → EncodesTo c i e → refused_with e ≡ 0 → Decodes (word_in e) i.addr (accepted i)
  gives c i e to ok = sym (rw to (Encodes.gives c i (rw (← to) ok)))

  -- Beside them.

  -- A word is refused at every address or at none, with one number.
  pub refused_anywhere : (w a b : ℕ) (d d' : Decoded) → Decodes w a d → Decodes w b d' → refused_with d ≡ refused_with d'
  refused_anywhere w a b d d' is is' = rw (is, is') (Elsewhere.refused_anywhere w a b)

  -- Conditional code is read once: of two words that differ in a condition below 15 alone, the answer to one is that to the other, under its own
  -- condition.
  pub read_once : (w v addr : ℕ) (d d' : Decoded) → Alike w v → Below w → Below v → Decodes w addr d → Decodes v addr d' → d' ≡ under (field v 28 4) d
  read_once w v addr d d' alike below below' is is' = rw (is, is') (ReadOnce.read_once w v addr alike below below')

  -- Two accepted words read alike, from the name on, exactly if they have one home word.
  pub reads_alike : (c : Filler) (w v addr : ℕ) (d d' : Decoded) → Word w → Word v → Decodes w addr d → Decodes v addr d' → Accepts d → Accepts d'
      → (answer_text d ≡ answer_text d') ↔ (home_of c w ≡ home_of c v)
  reads_alike c w v addr d d' bound bound' is is' ok ok' = rw (is, is') (Differ.reads_alike c w v addr bound bound' (rw (← is) ok) (rw (← is') ok'))

  -- 96 bytes take any line, and 393,280 any listing.
  pub line_fits : (addr w : ℕ) (d : Decoded) → Decodes w addr d → length (line_text addr w d) ≤ 96
  line_fits addr w d is = rw is (Fits.line_fits addr w)

  pub listing_fits : (section : List ℕ) → length (listing_of section) ≤ 393280
  listing_fits section = Enough.listing_fits section

  -- A row of numbers is refused, with 4, exactly if no word's answer at the row's address has it; and else the home word of each that has is given.
  pub row_refused_exactly : (c : Filler) (row : Slice) (p : ℕ) → EncodesRow c row p
      → (p ≡ packed 4 0) ↔ ((w : ℕ) → Word w → Answers w row.now → ⊥)
  row_refused_exactly Manual row p is = rw is (Exactly.encodes_exactly Manual row.now).0
  row_refused_exactly Zeros row p is = rw is (Exactly.encodes_exactly Zeros row.now).0

  pub row_gives_home : (c : Filler) (row : Slice) (p w : ℕ) → EncodesRow c row p → Word w → Answers w row.now → p ≡ packed 0 (home_of c w)
  row_gives_home Manual row p w is bound has = is ∙ (Exactly.encodes_exactly Manual row.now).1 w bound has
  row_gives_home Zeros row p w is bound has = is ∙ (Exactly.encodes_exactly Zeros row.now).1 w bound has

  -- The row that decoding writes encodes to the word's home word.
  pub row_back : (c : Filler) (w addr : ℕ) (row row' : Lent) (p : ℕ) → Word w → DecodesToRow w addr row 0 row' → EncodesRow c (as_bor row') p
      → p ≡ packed 0 (home_of c w)
  row_back Manual w addr row row' p bound is to = to ∙ ap (encoded_of Manual) is.1 ∙ Back.goes_home Manual w addr row.now bound (sym is.0)
  row_back Zeros w addr row row' p bound is to = to ∙ ap (encoded_of Zeros) is.1 ∙ Back.goes_home Zeros w addr row.now bound (sym is.0)

  -- The counts of a listing's closing line add up to the section's words.
  pub adds_up : (bytes : Slice) (o : Result Opened Refusal) → Opens bytes o
      → total named_here (places_of bytes.now) + total refused_here (places_of bytes.now) + total data_here (places_of bytes.now) ≡ (opened_in o).count
  adds_up bytes o is = rw is (Grow.adds_up bytes.now)

  -- Of version 1 all is as it was: every place has a word, the words start at byte 9, and the closing line has three counts.
  pub all_words : (s : List ℕ) → refusal_of s ≡ 0 → version_of s ≡ 1
      → places_of s ≡ firsts (λ place. WordHere (word_at s (9 + 4 * place)) (base_of s + 4 * place)) (count_of s)
  all_words s ok one = Places.all_words s ok one

  pub first_closing : (count named refused pool : ℕ)
      → closing_of 1 count named refused pool
      ≡ decimal_of count ++ bytes " words " ++ decimal_of named ++ bytes " named " ++ decimal_of refused ++ bytes " refused\n"
  first_closing count named refused pool = Listed.first_closing count named refused pool

  -- A data word's line has its address, the word and `data`, whatever instruction the word would be.
  pub data_line_lem : (w addr : ℕ) → line_here (Data w addr) ≡ hex_of 8 addr ++ bytes " " ++ hex_of 8 w ++ bytes " data\n"
  data_line_lem w addr = unfold data_line in refl

  -- To its own version a section is converted as it stands.
  pub copies : (section : Slice) (target : Target) → version_of section.now ≡ number_of target → converted_of target section.now ≡ section.now
  copies section target own = Conversion.copies target section.now own

  -- One with ranges does not go back to version 1; all others that are accepted are converted.
  pub back_refused : (s : List ℕ) → refusal_of s ≡ 0 → (range_count s ≡ 0 → ⊥) → conversion_refusal One s ≡ 12
  back_refused s ok some = Conversion.with_ranges s ok some

  pub back_accepted : (s : List ℕ) → refusal_of s ≡ 0 → range_count s ≡ 0 → conversion_refusal One s ≡ 0
  back_accepted s ok none = Conversion.back_possible s ok none

  -- A converted section is accepted, in the version that was asked for, with the base and at each place what the section had.
  pub converted : (section lent : Slice) (out out' : Lent) (target : Target) (r : Written) → Converts section target out r out' → refused_with r ≡ 0
      → lent.now ≡ take (len_in r) out'.now
      → (refusal_of lent.now ≡ 0)
      × (version_of lent.now ≡ number_of target)
      × (base_of lent.now ≡ base_of section.now)
      × (places_of lent.now ≡ places_of section.now)
  converted section lent out out' target r wrote ok is =
      let done = Left.is_converted target section.now out.now (rw wrote.0 at ok) in
      rw (is, wrote.0, wrote.1, done.1) (
        Conversion.converted_accepted target section.now done.0,
        Conversion.converted_version target section.now done.0,
        Conversion.same_base target section.now done.0,
        Conversion.same_places target section.now done.0,
      )

  -- There and back gives the same bytes, and the way back is refused only for want of room.
  pub leads_back : (section lent : Slice) (out out' : Lent) (target : Target) (r : Written) → Converts section target out r out' → refused_with r ≡ 0
      → lent.now ≡ take (len_in r) out'.now → conversion_refusal (own_of section.now) lent.now ≡ 0
  leads_back section lent out out' target r wrote ok is =
      let done = Left.is_converted target section.now out.now (rw wrote.0 at ok) in
      rw (is, wrote.0, wrote.1, done.1) (Conversion.back_accepted target section.now done.0)

  pub there_and_back : (section lent : Slice) (out out' out₂ out₂' : Lent) (target : Target) (r r₂ : Written)
      → Converts section target out r out' → refused_with r ≡ 0 → lent.now ≡ take (len_in r) out'.now
      → Converts lent (own_of section.now) out₂ r₂ out₂' → refused_with r₂ ≡ 0
      → take (len_in r₂) out₂'.now ≡ section.now
  there_and_back section lent out out' out₂ out₂' target r r₂ wrote ok is wrote₂ ok₂ =
      let there = Left.is_converted target section.now out.now (rw wrote.0 at ok) in
      let back = Left.is_converted (own_of section.now) lent.now out₂.now (rw wrote₂.0 at ok₂) in
      rw (wrote₂.0, wrote₂.1, back.1, is, wrote.0, wrote.1, there.1) (Conversion.back target section.now there.0)

  -- A walk is refused and changes nothing, or it reports, place by place, exactly what a chain of steps from the entry leads to, and each way out.
  pub walks : (section : Slice) (entry : ℕ) (out out' : Lent) (r : Walk.Answer) → WalksFrom section entry out r out'
      → Walks section.now entry out.now r out'.now
  walks section entry out out' r is = is

  pub walks_for_c : (section : Slice) (entry : ℕ) (out out' : Lent) (p : ℕ) → WalksFromForC section entry out p out'
      → WalksForC section.now entry out.now p out'.now
  walks_for_c section entry out out' p is = is

  -- If it reports words that are reached and nothing else, each of them is an accepted word, and each way that it goes stays in the section; only
  -- returns and traps end a chain.
  pub no_way_out : (section : Slice) (entry : ℕ) (out out' : Lent) (r : Walk.Answer) → WalksFrom section entry out r out' → refused_with r ≡ 0
      → NoWayOut (take (3 * (Walk.walked_in r).records) out'.now) → (p : ℕ) → Reached (steps_of section.now) entry p
      → Kept (opening_of section.now) p (here_of section.now p)
  no_way_out section entry out out' r is ok quiet = Walking.no_way_out is ok quiet

  -- A section is added to a tally, or refused with its own number, or with 16 where 65,536 sections are in; and then the tally is as it was.
  pub adds : (t : Tally) (section : Slice) (r : Result Tally Refusal) → Adds t section r
      → (refused_with r ≡ adding_refusal (own_refusal section.now) (get_or t.counts 0 0)) × ((refused_with r ≡ 0 → ⊥) → left_by t r ≡ t)
  adds t section r is = rw is (Tallied.answers t section.now, Tallied.stays t section.now)

  -- From zeros on each count is the number of what it counts in the sections that were added, the accepted ones up to 65,536, and none wraps.
  pub counts : (sections : List Slice) (t : Tally) → AddsEach none_of sections t → t.counts ≡ counts_of (added_of (map (λ x. x.now) sections))
  counts sections t each = rw (each_added none_of sections each, Tallied.tallies (map (λ x. x.now) sections)) refl
    where
      each_added : (t₀ : Tally) (ss : List Slice) → AddsEach t₀ ss t → t ≡ add_all t₀ (map (λ x. x.now) ss)
      each_added t₀ [] is = is
      each_added t₀ (s ∷ ss) is = each_added (left_by t₀ is.0) ss is.2 ∙ ap (λ (r : Result Tally Refusal). add_all (left_by t₀ r) (map (λ x. x.now) ss)) is.1

  -- Flows and roots each sum to the accepted words; words are data, refused with 2 or 3, or accepted.
  pub sums : (sections : List Slice) (t : Tally) → AddsEach none_of sections t
      → (sum (flows_of t.counts) ≡ how_many is_named (all_of (added_of (map (λ x. x.now) sections))))
      × (sum (roots_of t.counts) ≡ how_many is_named (all_of (added_of (map (λ x. x.now) sections))))
      × (get_or t.counts 1 0
      ≡ get_or t.counts 2 0 + (get_or t.counts 3 0 + get_or t.counts 4 0) + how_many is_named (all_of (added_of (map (λ x. x.now) sections))))
  sums sections t each =
      let added = added_of (map (λ x. x.now) sections) in rw (counts sections t each) (Sums.flows_sum added, Sums.roots_sum added, Sums.words_sum added)

  -- The order of sections does not alter the tally, if no more than 65,536 of them are accepted.
  pub any_order : (sections sections' : List Slice) (t t' : Tally) → Permᴰ (map (λ x. x.now) sections) (map (λ x. x.now) sections')
      → length (accepted_of (map (λ x. x.now) sections)) ≤ 65536 → AddsEach none_of sections t → AddsEach none_of sections' t' → t ≡ t'
  any_order sections sections' t t' moved few each each' =
      ap (λ (numbers : List ℕ). record { counts = numbers })
      (counts sections t each ∙ Order.same_added moved few ∙ sym (counts sections' t' each'))

  -- For C and Rust a tally stands at the start of lent numbers, and those behind it stay. Fewer than 171 are no tally: they stay as they are, and 10
  -- is given after the section's own number.
  pub adds_for_c : (section : Slice) (counts counts' : Lent) (n : ℕ) (t : Tally) (r : Result Tally Refusal) (rest : List ℕ) → AddsForC section counts n counts'
      → Adds t section r → 171 ≤ length t.counts → counts.now ≡ t.counts ++ rest → (n ≡ refused_with r) × (counts'.now ≡ (left_by t r).counts ++ rest)
  adds_for_c section counts counts' n t r rest wrote is long tally =
      rw (wrote.0, wrote.1, is, tally) (Tallying.lent_refusal_lem t rest section.now long, Tallying.lent_last_lem t rest section.now long)

  pub no_tally : (section : Slice) (counts counts' : Lent) (n : ℕ) → AddsForC section counts n counts' → length counts.now < 171
      → (own_refusal section.now ≡ 0 → n ≡ 10) × ((own_refusal section.now ≡ 0 → ⊥) → n ≡ own_refusal section.now) × (counts'.now ≡ counts.now)
  no_tally section counts counts' n wrote short = (
    λ ok. wrote.0 ∙ sym (Answered.too_short (own_refusal section.now) counts.now ok short),
    λ bad. wrote.0 ∙ sym (Answered.its_own (own_refusal section.now) counts.now bad),
    wrote.1 ∙ Tallying.too_few section.now counts.now short,
  )

  -- Words at a base are accepted exactly if they are whole, at most 4,096, at a multiple of 4, and not beyond the last address; and else refused with
  -- the number of the section of version 1 that has them.
  pub words_accepted : (l : Laid) → (words_refusal l ≡ 0) ↔ Fit l
  words_accepted l = Words.fit_exactly l

  pub words_refused : (l : Laid) → words_refusal l ≡ refusal_of (section_with l)
  words_refused l = unfold words_refusal in refl

  -- A run's number is that of the section's words, or else of the patch's, or else 14, exactly if the run is empty or neither holds all of it; or 0.
  module _ (section : Slice) (base : ℕ) (patch : Slice) (over addr len : ℕ) (refusal : Option Refusal)
      (given : RefusesRun section base patch over addr len refusal) where
    abbrev n : ℕ
    n = refusal_number refusal

    is : n ≡ refused_with (found_of_run (section.now from base) (patch.now from over) addr len)
    is = ap refusal_number given ∙ its_number (found_of_run (section.now from base) (patch.now from over) addr len)

    pub section_first : (words_refusal (section.now from base) ≡ 0 → ⊥) → n ≡ words_refusal (section.now from base)
    section_first bad = is ∙ Runs.section_first (section.now from base) (patch.now from over) addr len bad

    pub then_patch : words_refusal (section.now from base) ≡ 0 → (words_refusal (patch.now from over) ≡ 0 → ⊥) → n ≡ words_refusal (patch.now from over)
    then_patch ok bad = is ∙ Runs.then_patch (section.now from base) (patch.now from over) addr len ok bad

    pub no_run_exactly : (n ≡ 14)
        ↔ (words_refusal (section.now from base) ≡ 0)
        × (words_refusal (patch.now from over) ≡ 0)
        × NoRun (section.now from base) (patch.now from over) addr len
    no_run_exactly = rw is (Runs.no_run_exactly (section.now from base) (patch.now from over) addr len)

    -- If it is 0 the part is the run: bytes of the one slice that holds all of them, and the image's at those addresses. Else the part is empty.
    pub is_run : (part : Slice) → GivesRun section base patch over addr len part → n ≡ 0
        → IsRun (section.now from base) (patch.now from over) addr len part.now
    is_run part gives none = rw gives.0 (Runs.is_run (section.now from base) (patch.now from over) addr len (sym is ∙ none))

    pub empty_exactly : (part : Slice) → GivesRun section base patch over addr len part → (part.now ≡ []) ↔ (n ≡ 0 → ⊥)
    empty_exactly part gives = rw (is, gives.0) (Runs.empty_exactly (section.now from base) (patch.now from over) addr len)

  pub one_run : (s p : Laid) (addr len : ℕ) (part part' : List ℕ) → IsRun s p addr len part → IsRun s p addr len part' → part ≡ part'
  one_run s p addr len part part' run run' = Runs.one_run s p addr len part part' run run'

  -- It lies where that slice lies, from that place on; C and Rust are given the place.
  pub run_lies : (section : Slice) (base : ℕ) (patch : Slice) (over addr len : ℕ) (found : Result Found Refusal) (part : Slice)
      → FindsRun section base patch over addr len found → GivesRun section base patch over addr len part
      → part.ref_ptr ≡ lies_at section.ref_ptr patch.ref_ptr found
  run_lies section base patch over addr len found part is gives = rw is gives.1

  pub run_for_c : (section : Slice) (base : ℕ) (patch : Slice) (over addr len : ℕ) (found : Result Found Refusal) (p : ℕ)
      → FindsRun section base patch over addr len found → FindsRunForC section base patch over addr len p → p ≡ found_for_c found
  run_for_c section base patch over addr len found p is gives = rw is gives

  -- A patched section is written, or refused with the section's number, then the patch's, then with 10, and then no byte is changed.
  pub writes_patched : (section patch : Slice) (out out' : Lent) (r : Written) → WritesPatched section patch out r out'
      → PutsSection given (patched_refusal section.now patch.now) (patched_of section.now patch.now) out.now (told r) out'.now
  writes_patched section patch out out' r wrote = rw (wrote.0, wrote.1) (Left.puts_patched given told (λ a. refl) section.now patch.now _)

  pub writes_patched_for_c : (section patch : Slice) (out out' : Lent) (p : ℕ) → WritesPatchedForC section patch out p out'
      → PutsSection packed (patched_refusal section.now patch.now) (patched_of section.now patch.now) out.now p out'.now
  writes_patched_for_c section patch out out' p wrote = rw (wrote.0, wrote.1) (Left.puts_patched packed packed_answer Left.packed_parts section.now patch.now _)

  -- It is accepted, with the section's header and ranges and at each place the image's word; where the patch does not reach all is as before.
  pub patches : (section patch : Slice) (out out' : Lent) (r : Written) → WritesPatched section patch out r out' → refused_with r ≡ 0
      → Patches section.now patch.now (take (len_in r) out'.now)
  patches section patch out out' r wrote ok =
      let done = Left.is_patched section.now patch.now out.now (rw wrote.0 at ok) in
      let both = Patched.accepted section.now patch.now done.0 in
      rw (wrote.0, wrote.1, done.1) (Patching.patches section.now patch.now both.0 both.1)

  -- An index of a section's calls is refused and changes nothing, or it is in order of target and then of caller, each call once, and holds exactly
  -- the words whose flow is a call.
  pub builds : (section : Slice) (index index' : Lent) (r : Indexed) → BuildsIndex section index r index' → Builds section.now index.now r index'.now
  builds section index index' r is = is

  pub index_of_calls : (section : Slice) (index index' : Lent) (r : Indexed) → BuildsIndex section index r index' → refused_with r ≡ 0
      → Ordered (entries_of index'.now (len_in r)) × ((e : Entry) → In e (entries_of index'.now (len_in r)) ↔ IsCall section.now e)
  index_of_calls section index index' r is ok =
      rw (Indexing.built is ok) (Calling.index_ordered section.now, Calling.holds_exactly section.now)

  -- Replacing a word is refused and changes no byte and no number, or it changes the word's four bytes, and any list handed in gets the same steps.
  pub replaces : (section section' index index' : Lent) (place w count : ℕ) (r : Indexed)
      → ReplacesWord section place w index count r section' index'
      → Replaces section.now place w index.now count r section'.now index'.now
  replaces section section' index index' place w count r is = is

  pub same_steps : (section section' index index' : Lent) (place w count : ℕ) (r : Indexed)
      → ReplacesWord section place w index count r section' index' → refused_with r ≡ 0
      → entries_of index'.now (len_in r) ≡ updated_of section.now place w (entries_of index.now count)
  same_steps section section' index index' place w count r is ok = Indexing.updated is ok

  -- If the index handed in was built from the old words, the updated one equals an index built afresh from the new words.
  pub as_built_afresh : (section section' index index' index'' fresh fresh' : Lent) (place w : ℕ) (r r₂ r₃ : Indexed)
      → BuildsIndex (as_bor section) index r index' → refused_with r ≡ 0
      → ReplacesWord section place w index' (len_in r) r₂ section' index'' → refused_with r₂ ≡ 0
      → BuildsIndex (as_bor section') fresh r₃ fresh' → refused_with r₃ ≡ 0
      → entries_of index''.now (len_in r₂) ≡ entries_of fresh'.now (len_in r₃)
  as_built_afresh section section' index index' index'' fresh fresh' place w r r₂ r₃ was ok is ok₂ new ok₃ =
      Indexing.afresh is ok₂ (Indexing.built was ok) ∙ sym (Indexing.built new ok₃)

  -- Looking a target up is refused and changes nothing, or it gives its callers in the order of the list, whatever list that is.
  pub finds : (index : Slice) (out out' : Lent) (count target : ℕ) (r : Written) → FindsCallers index count target out r out'
      → (r ≡ found_of index.now count target out.now) × (out'.now ≡ left_of index.now count target out.now)
  finds index out out' count target r is = is

  -- So these are for C and Rust, with the refusal's number above the count.
  pub builds_for_c : (section : Slice) (index index' : Lent) (p : ℕ) → BuildsIndexForC section index p index'
      → BuildsForC section.now index.now p index'.now
  builds_for_c section index index' p is = is

  pub replaces_for_c : (section section' index index' : Lent) (place w count p : ℕ) → ReplacesWordForC section place w index count p section' index'
      → ReplacesForC section.now place w index.now count p section'.now index'.now
  replaces_for_c section section' index index' place w count p is = is

  pub finds_for_c : (index : Slice) (out out' : Lent) (count target p : ℕ) → FindsCallersForC index count target out p out'
      → FindsForC index.now count target out.now p out'.now
  finds_for_c index out out' count target p is = is

  -- Putting a section in its home form is refused and changes nothing, or each accepted word becomes its home word and the changes are listed.
  pub puts_home : (section section' list list' : Lent) (r : Result Changed Refusal) → PutsInHomeForm section list r section' list'
      → PutsHome section.now list.now r section'.now list'.now
  puts_home section section' list list' r is = is

  pub puts_home_for_c : (section section' list list' : Lent) (p : ℕ) → PutsInHomeFormForC section list p section' list'
      → PutsHomeForC section.now list.now p section'.now list'.now
  puts_home_for_c section section' list list' p is = is

  -- The section is still accepted, with the same version, base and count, and the same bytes before its words: the header and the ranges.
  pub still_accepted : (section section' list list' : Lent) (r : Result Changed Refusal) → PutsInHomeForm section list r section' list' → refused_with r ≡ 0
      → (opened_of section'.now ≡ opened_of section.now)
      × (take (opening_of section.now).start section'.now ≡ take (opening_of section.now).start section.now)
  still_accepted section section' list list' r is ok = (Homing.still_opens is ok, Homing.still_headed is ok)

  -- Each place reads as before: a word has become its home word, with the same answer at the same address, and data is the same.
  pub reads_as_before : (section section' list list' : Lent) (r : Result Changed Refusal) → PutsInHomeForm section list r section' list' → refused_with r ≡ 0
      → Bytes section.now → (p : ℕ) → Stays (here_of section.now p) (here_of section'.now p)
  reads_as_before section section' list list' r is ok bytes = Homing.still_reads is ok bytes

  -- The list has exactly the places where old and new words differ, in order, and at its start stand their numbers; both counts are those of the list.
  pub lists_exactly : (section section' list list' : Lent) (r : Result Changed Refusal) → PutsInHomeForm section list r section' list' → refused_with r ≡ 0
      → Bytes section.now
      → ((c : Change) → Changes.In c (changes_of section.now) ↔ Differs section.now section'.now c)
      × Ascending (changes_of section.now)
      × (list'.now ≡ written list.now 0 (numbers_of (changes_of section.now)))
      × (r ≡ Ok (record { changes = length (changes_of section.now); unindexed = unindexed_among (changes_of section.now) }))
  lists_exactly section section' list list' r is ok bytes = (
    Homing.differ is ok bytes,
    HomeForms.ascending section.now,
    Homing.list_is is ok,
    Homing.answer_is is ok,
  )

  -- A second run changes nothing and lists nothing, whatever list is lent.
  pub second_run : (section section' list list' again list₂ again' list₂' : Lent) (r r₂ : Result Changed Refusal)
      → PutsInHomeForm section list r section' list' → refused_with r ≡ 0 → Bytes section.now
      → again.now ≡ section'.now → PutsInHomeForm again list₂ r₂ again' list₂'
      → (r₂ ≡ Ok (record { changes = 0; unindexed = 0 })) × (again'.now ≡ again.now) × (list₂'.now ≡ list₂.now)
  second_run section section' list list' again list₂ again' list₂' r r₂ is ok bytes same next =
      let done = Homing.stays_so is ok bytes (subst (λ (s : List ℕ). PutsHome s list₂.now r₂ again'.now list₂'.now) same next) in
      (done.0, done.1 ∙ sym same, done.2)

  -- By the manual, too: what it says of a changed word it says of the new word, but for the mark of minus zero, if the word is not of the unindexed
  -- form of a coprocessor's load or store.
  pub same_work_at_home : (w addr : ℕ) (d : Decoded) → Word w → Decodes w addr d → Accepts d → is_unindexed w ≡ false
      → (said_at w addr ≡ said_at (home_of Manual w) addr) ⊎ (unmarked (said_at w addr) ≡ said_at (home_of Manual w) addr)
  same_work_at_home w addr d bound is ok = Unindexed.said_alike w addr bound (rw (← is) ok)

  -- The rule of a barrier before every commit is judged for a program in numbers: refused, or violated with a shortest way from an entry to a commit,
  -- undecided with the first open place that is reached, or it holds. And the verdict is exact for runs with a stack: no run is missed, and there is
  -- no alarm without one.
  pub judges_rule : (flags targets further entries : Slice) (known dist prior way known' dist' prior' way' : Lent) (p : ℕ)
      → JudgesRuleForC flags targets further entries known dist prior way p known' dist' prior' way'
      → JudgesForC flags.now targets.now further.now entries.now known.now dist.now prior.now way.now p
      known'.now dist'.now prior'.now way'.now
  judges_rule flags targets further entries known dist prior way known' dist' prior' way' p is = is

  pub judges_exactly : {P : Program} {way last : List ℕ} (v : Verdict) → Rule.Answers P way last v
      → ((Rule.number v ≡ VIOLATED) × Judges P violated)
      ⊎ (((Rule.number v ≡ UNDECIDED) × Judges P undecided) ⊎ ((Rule.number v ≡ HOLDS) × Judges P holds))
  judges_exactly v a = Judging.judges v a
