-- A reader of operands, which gives an operand back that stands under its name. Assumes nothing.
use mathlib.Core.Path.{◌≡◌, refl, subst, sym, ap, ◌∙◌}
use Rattle.insn.specs.Memory.{Index}
use Rattle.std.specs.Prelude.{Some, None}
use mathlib.Core.Bool.{Bool, true, false}
use mathlib.Core.List.{List, [], ◌∷◌, ◌++◌, append-nil, append_assoc}
use Prim.Native.Nat.{ℕ, ◌+◌, ◌-◌, ◌^◌, ◌<◌, ◌≤◌}
use Prim.Native.Char.{code}
use Prim.Native.String.{String}
use native.Mathlib.Nat.{zero-add}
use native.Mathlib.Omega.{arith}
use borrow.Author.Tests.{lt-ltb, le-ltb}
use lib.Dec.{T, eqb, ltb, ltb→lt}
use lib.IntN.{ℤ, nat_abs}
use lib.ListN.{get_or, take, drop}
use lib.Seq.{take_at}
use Rattle.word.specs.Choice.{pick, by_test}
use Rattle.word.specs.Every.{every}
use Rattle.text.specs.Text.{bytes, decimal_of, signed_of, hex_of}
use Rattle.insn.specs.Numbers.{shift_number}
use Rattle.insn.specs.declared.AddrMode.{AddrMode}
use Rattle.insn.specs.declared.AddrMode.TheVariants.{Offset, PreIndex, PostIndex}
use Rattle.insn.specs.declared.Mem.{Mem}
use Rattle.insn.specs.declared.Operand.{Operand}
use Rattle.insn.specs.declared.Operand.TheVariants.{Empty, Register, Shifted, ShiftBy, SaturateShift, Rotate, Count, Number, StatusMask}
use Rattle.insn.specs.declared.Operand.TheVariants.{StatusSource, WriteBack, List as RegisterList, Address, Memory, Option}
use Rattle.insn.specs.declared.Operand.TheVariants.{Coprocessor, CoprocessorRegister}
use Rattle.insn.specs.declared.Reg.{Reg}
use Rattle.insn.specs.declared.Shift.{Shift}
use Rattle.insn.specs.declared.Shift.TheVariants.{Lsl, Lsr, Asr, Ror}
use Rattle.insn.specs.declared.Status.{Status}
use Rattle.insn.specs.declared.Status.TheVariants.{Apsr, Spsr}
use Rattle.a32_shared.specs.Shifts as Kind
use Rattle.line_spelling.specs.Names.{masks, shifts, sources, barriers, registers, coprocessors, co_registers, entry}
use Rattle.line_spelling.specs.Line.{register_text, shift_text, index_text, displacement_text, mode_text, memory_text, operand_text}
use Rattle.line_spelling.proofs.Cut.{all_cat, pieces, cut, uncut}
use Rattle.line_spelling.proofs.Digits.{first, number_from, signed_from, minus_zero_from, decimal_back, signed_back, not_minus_zero, hex_back}
use Rattle.line_spelling.proofs.Digits.{hex_length}
use Rattle.line_spelling.proofs.Formed.{Held, Indexed, hashed, decimal_for, Sound}
use Rattle.line_spelling.proofs.Tables.{every_passes, agrees, find, found}
use Rattle.line_spelling.proofs.Clean.{plain, clean, clean_lacks, cut_clean, uncut_clean, is_word, lead, word_clean, register_word}
use Rattle.line_spelling.proofs.Clean.{shift_word, register_clean, shift_clean, decimal_clean, mode_clean, displacement_clean, index_lacks}

-- the parts of an operand
register_from : List ℕ → Reg
register_from text = record { 0 = find registers text }

register_back : (r : Reg) → r.0 < 16 → register_from (register_text r) ≡ r
register_back r h = unfold register_from register_text in ap (λ (n : ℕ). record { 0 = n }) (found registers 16 tt r.0 h)

is_register : (r : Reg) → r.0 < 16 → ltb (find registers (register_text r)) 16 ≡ true
is_register r h = unfold register_text in lt-ltb _ 16 (subst (λ (n : ℕ). n < 16) (sym (found registers 16 tt r.0 h)) h)

shift_from : List ℕ → Shift
shift_from text = Kind.shift_of (find shifts text)

shift_back : (kind : Shift) → shift_from (shift_text kind) ≡ kind
unfolding shift_from shift_text
shift_back Lsl = refl
shift_back Lsr = refl
shift_back Asr = refl
shift_back Ror = refl

abbrev index_from : List (List ℕ) → Index
index_from [] = None
index_from (r ∷ []) = None
index_from (r ∷ n ∷ _) = Some ((register_from r), (number_from 10 n))

mode_from : List ℕ → AddrMode
mode_from text = pick (eqb (first text) (code "o")) Offset (pick (eqb (first text) (code "b")) PreIndex PostIndex)

mode_back : (mode : AddrMode) → mode_from (mode_text mode) ≡ mode
unfolding mode_from mode_text
mode_back Offset = refl
mode_back PreIndex = refl
mode_back PostIndex = refl

abbrev memory_from : ℕ → List (List ℕ) → Mem
memory_from name ps =
    record {
      base = register_from (get_or ps 0 []);
      index = index_from (pieces (code "<") (get_or ps 1 []));
      disp = signed_from (get_or ps 2 []);
      mode = mode_from (get_or ps 3 []);
      size = number_from 10 (get_or (pieces (code "]") (get_or ps 4 [])) 0 []);
      decimal = decimal_for name (mode_from (get_or ps 3 []));
      minus_zero = minus_zero_from (get_or ps 2 []);
    }

-- a word by itself: a register, a mask, a status register, an option, a coprocessor or a register of one; or a register with a mark behind it
abbrev plain_words : List String
plain_words = registers ++ masks ++ sources ++ barriers ++ coprocessors ++ co_registers

abbrev status_from : ℕ → Status
status_from n = pick (eqb n 0) Apsr Spsr

abbrev plain_from : ℕ → Operand
plain_from n =
    pick (ltb n 16) (Register (record { 0 = n }))
    (pick (ltb n 48) (StatusMask (n - 16))
    (pick (ltb n 50) (StatusSource (status_from (n - 48)))
    (pick (ltb n 66) (Option (n - 50))
    (pick (ltb n 82) (Coprocessor (n - 66)) (CoprocessorRegister (n - 82))))))

abbrev word_from : List (List ℕ) → Operand
word_from [] = Empty
word_from (x ∷ []) = plain_from (find plain_words x)
word_from (x ∷ y ∷ _) = WriteBack (register_from x)

-- a shift with what it is by
abbrev pair_from : List ℕ → List ℕ → Operand
pair_from x y =
    pick (ltb (find registers y) 16)
    (ShiftBy (shift_from x) (register_from y))
    (pick (eqb (find shifts x) 3) (Rotate (number_from 10 y)) (SaturateShift (shift_from x) (number_from 10 y)))

abbrev list_from : List (List ℕ) → Operand
list_from [] = Empty
list_from (x ∷ []) = word_from (pieces (code "!") x)
list_from (x ∷ y ∷ []) = pair_from x y
list_from (x ∷ y ∷ z ∷ _) = Shifted (register_from x) (shift_from y) (number_from 10 z)

-- an operand behind a `#`, and behind its first byte
abbrev hash_from : ℕ → List ℕ → Operand
hash_from kind rest =
    pick (eqb kind 0) (Count (signed_from rest))
    (pick (eqb kind 1) (Number (number_from 10 rest)) (Option (find barriers (code "#" ∷ rest))))

abbrev marked_from : ℕ → ℕ → List ℕ → Operand
marked_from name b rest =
    pick (eqb b (code "#")) (hash_from (hashed name) rest)
    (pick (eqb b (code "{")) (RegisterList (number_from 16 (take 4 rest)))
    (pick (eqb b (code "@")) (Address (number_from 16 rest))
    (Memory (memory_from name (pieces (code ":") rest)))))

pub operand_from : ℕ → List ℕ → Operand
operand_from name text = pick (plain (first text)) (list_from (pieces (code ",") text)) (marked_from name (first text) (drop 1 text))

by_word : (name : ℕ) (text : List ℕ) → plain (first text) ≡ true → operand_from name text ≡ list_from (pieces (code ",") text)
by_word name text h = unfold operand_from in rw h

by_mark : (name b : ℕ) (rest : List ℕ) → plain b ≡ false → operand_from name (b ∷ rest) ≡ marked_from name b rest
by_mark name b rest h = unfold operand_from in rw h

-- a number has less than 20 digits, and is no register
small_back : (n k : ℕ) → T (ltb k (2 ^ 64)) → n < k → number_from 10 (decimal_of n) ≡ n
small_back n k t h = decimal_back n (omega (arith, ltb→lt k (2 ^ 64) t))

no_register : (n : ℕ) → n < 33 → ltb (find registers (decimal_of n)) 16 ≡ false
no_register n h = unfold decimal_of in rw (agrees (λ n. find registers (decimal_of n)) (λ n. 16) 33 tt n h)

less : (k n : ℕ) → k + n - k ≡ n
less k n = omega arith

module _ (name : ℕ) where
  -- a word by itself
  alone : (text : List ℕ) → is_word text ≡ true → operand_from name text ≡ plain_from (find plain_words text)
  alone text h =
      by_word name text (subst (λ (xs : List ℕ). plain (first xs) ≡ true) (append-nil text) (lead text [] h))
      ∙ rw (uncut_clean (code ",") tt text (word_clean text h), uncut_clean (code "!") tt text (word_clean text h))

  -- two words, and three
  pair : (a b : List ℕ) → is_word a ≡ true → clean b ≡ true → operand_from name (a ++ code "," ∷ b) ≡ pair_from a b
  pair a b h k =
      by_word name (a ++ code "," ∷ b) (lead a (code "," ∷ b) h)
      ∙ rw (cut_clean (code ",") tt a b (word_clean a h), uncut_clean (code ",") tt b k)

  three : (a b c : List ℕ) → is_word a ≡ true → clean b ≡ true → clean c ≡ true
      → operand_from name (a ++ code "," ∷ (b ++ code "," ∷ c)) ≡ Shifted (register_from a) (shift_from b) (number_from 10 c)
  three a b c h k l =
      by_word name (a ++ code "," ∷ (b ++ code "," ∷ c)) (lead a (code "," ∷ (b ++ code "," ∷ c)) h)
      ∙ rw (cut_clean (code ",") tt a (b ++ code "," ∷ c) (word_clean a h), cut_clean (code ",") tt b c k, uncut_clean (code ",") tt c l)

  -- a word of a table, by the table's place among the words
  listed : (table : List String) (place count : ℕ) → T (every (λ n. is_word (entry table n)) 0 count)
      → T (every (λ n. eqb (find plain_words (entry table n)) (place + n)) 0 count) → (n : ℕ) → n < count
      → operand_from name (entry table n) ≡ plain_from (place + n)
  listed table place count t u n h =
      alone (entry table n) (every_passes (λ n. is_word (entry table n)) count t n h)
      ∙ ap plain_from (agrees (λ n. find plain_words (entry table n)) (λ n. place + n) count u n h)

  register : (r : Reg) → r.0 < 16 → operand_from name (register_text r) ≡ Register r
  register r h = unfold register_text plain in listed registers 0 16 tt tt r.0 h ∙ rw (zero-add r.0, lt-ltb r.0 16 h)

  mask : (n : ℕ) → n < 32 → operand_from name (entry masks n) ≡ StatusMask n
  mask n h = unfold plain in
      listed masks 16 32 tt tt n h ∙ rw (le-ltb (16 + n) 16 (omega arith), lt-ltb (16 + n) 48 (omega arith)) (ap StatusMask (less 16 n))

  after : (n : ℕ) → 66 ≤ n → plain_from n ≡ pick (ltb n 82) (Coprocessor (n - 66)) (CoprocessorRegister (n - 82))
  after n h = rw (le-ltb n 16 (omega arith), le-ltb n 48 (omega arith), le-ltb n 50 (omega arith), le-ltb n 66 h)

  coprocessor : (n : ℕ) → n < 16 → operand_from name (entry coprocessors n) ≡ Coprocessor n
  coprocessor n h = unfold plain in
      listed coprocessors 66 16 tt tt n h ∙ after (66 + n) (omega arith) ∙ rw (lt-ltb (66 + n) 82 (omega arith)) (ap Coprocessor (less 66 n))

  co_register : (n : ℕ) → n < 16 → operand_from name (entry co_registers n) ≡ CoprocessorRegister n
  co_register n h = unfold plain in
      listed co_registers 82 16 tt tt n h ∙ after (82 + n) (omega arith) ∙ rw (le-ltb (82 + n) 82 (omega arith)) (ap CoprocessorRegister (less 82 n))

  source : (s : Status) → operand_from name (operand_text (StatusSource s)) ≡ StatusSource s
  unfolding operand_text plain
  source Apsr = alone (operand_text (StatusSource Apsr)) refl
  source Spsr = alone (operand_text (StatusSource Spsr)) refl

  write_back : (r : Reg) → r.0 < 16 → operand_from name (register_text r ++ code "!" ∷ []) ≡ WriteBack r
  write_back r h =
      by_word name (register_text r ++ code "!" ∷ []) (lead (register_text r) (code "!" ∷ []) (register_word r h))
      ∙ rw (
        uncut (code ",") (register_text r ++ code "!" ∷ []) (simp (all_cat, clean_lacks (code ",") tt (register_text r) (register_clean r h))),
        cut_clean (code "!") tt (register_text r) [] (register_clean r h),
        register_back r h,
      )

  shift_by : (kind : Shift) (r : Reg) → r.0 < 16 → operand_from name (shift_text kind ++ code "," ∷ register_text r) ≡ ShiftBy kind r
  shift_by kind r h =
      pair (shift_text kind) (register_text r) (shift_word kind) (register_clean r h)
      ∙ rw (is_register r h, shift_back kind, register_back r h)

  shifted : (r : Reg) (kind : Shift) (n : ℕ) → r.0 < 16 → n < 33 → operand_from name (register_text r ++ code "," ∷
      (shift_text kind ++ code "," ∷ decimal_of n)) ≡ Shifted r kind n
  shifted r kind n h k =
      three (register_text r) (shift_text kind) (decimal_of n) (register_word r h) (shift_clean kind) (decimal_clean n)
      ∙ rw (register_back r h, shift_back kind, small_back n 33 tt k)

  -- a shift by an amount
  by_amount : (a : List ℕ) (n : ℕ) → is_word a ≡ true → n < 33
      → operand_from name (a ++ code "," ∷ decimal_of n) ≡ pick (eqb (find shifts a) 3) (Rotate n) (SaturateShift (shift_from a) n)
  by_amount a n h k = pair a (decimal_of n) h (decimal_clean n) ∙ rw (no_register n k, small_back n 33 tt k)

  saturate : (kind : Shift) (n : ℕ) → eqb (shift_number kind) 3 ≡ false → n < 33 → operand_from name
      (shift_text kind ++ code "," ∷ decimal_of n) ≡ SaturateShift kind n
  unfolding shift_text shift_from plain
  saturate Lsl n other h = by_amount (shift_text Lsl) n refl h
  saturate Lsr n other h = by_amount (shift_text Lsr) n refl h
  saturate Asr n other h = by_amount (shift_text Asr) n refl h
  saturate Ror n other h = absurd (subst T other tt)

  rotate : (n : ℕ) → n < 33 → operand_from name (bytes "ror," ++ decimal_of n) ≡ Rotate n
  rotate n h = unfold plain in by_amount (bytes "ror") n refl h

  count : (z : ℤ) → hashed name ≡ 0 → nat_abs z < 2 ^ 32 → operand_from name (code "#" ∷ signed_of z) ≡ Count z
  count z signs h = unfold plain in by_mark name (code "#") (signed_of z) refl ∙ rw signs (ap Count (signed_back z (omega arith)))

  number : (n : ℕ) → hashed name ≡ 1 → n < 2 ^ 32 → operand_from name (code "#" ∷ decimal_of n) ≡ Number n
  number n pattern h = unfold plain in by_mark name (code "#") (decimal_of n) refl ∙ rw pattern (ap Number (decimal_back n (omega arith)))

  -- an option's name is a word, or a number behind a `#`
  module _ (n : ℕ) (numbered : hashed name ≡ 2) (h : n < 16) where
    abbrev text : List ℕ
    text = entry barriers n

    word : is_word text ≡ true → operand_from name text ≡ Option n
    unfolding plain
    word e =
        alone text e
        ∙ rw (
          known,
          le-ltb (50 + n) 16 (omega arith),
          le-ltb (50 + n) 48 (omega arith),
          le-ltb (50 + n) 50 (omega arith),
          lt-ltb (50 + n) 66 (omega arith),
        ) (ap Option (less 50 n))
      where
        known : find plain_words text ≡ 50 + n
        known = simp e at (agrees (λ n. pick (is_word (entry barriers n)) (find plain_words (entry barriers n)) (50 + n)) (λ n. 50 + n) 16 tt n h)

    behind : is_word text ≡ false → operand_from name text ≡ Option n
    unfolding operand_from plain
    behind e = rw (hash, numbered) (ap Option known)
      where
        hash : first text ≡ code "#"
        hash = simp e at (agrees (λ n. pick (is_word (entry barriers n)) (code "#") (first (entry barriers n))) (λ n. code "#") 16 tt n h)

        known : find barriers (code "#" ∷ drop 1 text) ≡ n
        known = simp e at (agrees (λ n. pick (is_word (entry barriers n)) n (find barriers (code "#" ∷ drop 1 (entry barriers n)))) (λ n. n) 16 tt n h)

    option : operand_from name (entry barriers n) ≡ Option n
    option = by_test (is_word text) word behind

  list : (n : ℕ) → n < 2 ^ 16 → operand_from name (code "{" ∷ hex_of 4 n ++ code "}" ∷ []) ≡ RegisterList n
  list n h = unfold plain in
      by_mark name (code "{") (hex_of 4 n ++ code "}" ∷ []) refl
      ∙ ap RegisterList (ap (number_from 16) (take_at (hex_of 4 n) (code "}" ∷ []) 4 (hex_length 4 n)) ∙ hex_back 4 n h)

  address : (n : ℕ) → n < 2 ^ 32 → operand_from name (code "@" ∷ hex_of 8 n) ≡ Address n
  address n h = unfold plain in by_mark name (code "@") (hex_of 8 n) refl ∙ ap Address (hex_back 8 n h)

-- the parts of a memory form
index_back : (x : Index) → Indexed x → index_from (pieces (code "<") (index_text x)) ≡ x
unfolding index_text
index_back None h = refl
index_back (Some (r, n)) h =
    rw (
      append_assoc (register_text r) (code "<" ∷ []) (decimal_of n),
      cut_clean (code "<") tt (register_text r) (decimal_of n) (register_clean r h.0),
      uncut_clean (code "<") tt (decimal_of n) (decimal_clean n),
      register_back r h.0,
      small_back n 32 tt h.1,
    )

module _ (name : ℕ) (m : Mem) (h : Held name m) where
  fits : nat_abs m.disp < 2 ^ 64
  fits = omega (arith, h.disp)

  displacement_back : signed_from (displacement_text m) ≡ m.disp
  unfolding displacement_text signed_from number_from
  displacement_back = by_test m.minus_zero (λ e. rw e (sym (h.minus_zero e))) (λ e. rw e (signed_back m.disp fits))

  marked_back : minus_zero_from (displacement_text m) ≡ m.minus_zero
  marked_back = unfold displacement_text minus_zero_from number_from in by_test m.minus_zero (λ e. rw e) (λ e. rw e (not_minus_zero m.disp fits))

  abbrev base : List ℕ
  base = register_text m.base

  abbrev size : List ℕ
  size = decimal_of m.size

  abbrev inner : List ℕ
  inner =
      base ++ code ":" ∷ (index_text m.index ++ code ":" ∷ (displacement_text m ++ code ":" ∷ (mode_text m.mode ++ code ":" ∷ (size ++ code "]" ∷ []))))

  memory_text_lem : memory_text m ≡ code "[" ∷ inner
  memory_text_lem = unfold memory_text in simp append_assoc

  five : pieces (code ":") inner ≡ base ∷ index_text m.index ∷ displacement_text m ∷ mode_text m.mode ∷ (size ++ code "]" ∷ []) ∷ []
  five =
      rw (
        cut_clean (code ":") tt base _ (register_clean m.base h.base),
        cut (code ":") (index_text m.index) _ (index_lacks (code ":") tt tt m.index h.index),
        cut_clean (code ":") tt (displacement_text m) _ (displacement_clean m),
        cut_clean (code ":") tt (mode_text m.mode) _ (mode_clean m.mode),
        uncut (code ":") (size ++ code "]" ∷ []) (simp (all_cat, clean_lacks (code ":") tt size (decimal_clean m.size))),
      )

  memory_back : operand_from name (memory_text m) ≡ Memory m
  memory_back = unfold plain in
      ap (operand_from name) memory_text_lem
      ∙ by_mark name (code "[") inner refl
      ∙ rw (
        five,
        cut_clean (code "]") tt size [] (decimal_clean m.size),
        register_back m.base h.base,
        index_back m.index h.index,
        displacement_back,
        marked_back,
        mode_back m.mode,
        small_back m.size 10 tt h.size,
        ← h.decimal,
      )

pub operand_back : (last : Bool) (name : ℕ) (o : Operand) → Sound last name o → operand_from name (operand_text o) ≡ o
unfolding operand_text
operand_back last name Empty s = absurd s
operand_back last name (Register r) s = register name r s
operand_back last name (Shifted r kind n) s = simp append_assoc (shifted name r kind n s.0 s.1)
operand_back last name (ShiftBy kind r) s = simp append_assoc (shift_by name kind r s)
operand_back last name (SaturateShift kind n) s = simp append_assoc (saturate name kind n s.0 s.1)
operand_back last name (Rotate n) s = rotate name n s
operand_back last name (Count z) s = count name z s.0 s.1
operand_back last name (Number n) s = number name n s.0 s.1
operand_back last name (StatusMask n) s = mask name n s
operand_back last name (StatusSource t) s = source name t
operand_back last name (WriteBack r) s = write_back name r s
operand_back last name (RegisterList n) s = list name n s
operand_back last name (Address n) s = address name n s
operand_back last name (Memory m) s = memory_back name m s.1
operand_back last name (Option n) s = option name n s.0 s.1
operand_back last name (Coprocessor n) s = coprocessor name n s
operand_back last name (CoprocessorRegister n) s = co_register name n s
