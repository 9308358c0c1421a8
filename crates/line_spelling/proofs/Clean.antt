-- The bytes that cut a text or begin an operand, and the texts that hold none of them. Assumes nothing.
use mathlib.Core.Path.{◌≡◌, refl, subst, sym, ap, ◌∙◌}
use Rattle.insn.specs.Memory.{Index}
use Rattle.std.specs.Prelude.{Some, None}
use mathlib.Core.Bool.{Bool, true, false, not}
use mathlib.Core.List.{List, [], ◌∷◌, ◌++◌}
use Prim.Native.Nat.{ℕ, ◌<◌}
use Prim.Native.Char.{code}
use borrow.Author.Tests.{eqb-true}
use lib.Dec.{T, T_not, eqb}
use lib.IntN.{ℤ}
use Rattle.word.specs.Choice.{by_test, parts, passes}
use Rattle.text.specs.Text.{bytes, decimal_of, signed_of, hex_of}
use Rattle.insn.specs.Numbers.{shift_number}
use Rattle.insn.specs.declared.AddrMode.{AddrMode}
use Rattle.insn.specs.declared.AddrMode.TheVariants.{Offset, PreIndex, PostIndex}
use Rattle.insn.specs.declared.Mem.{Mem}
use Rattle.insn.specs.declared.Operand.{Operand}
use Rattle.insn.specs.declared.Operand.TheVariants.{Empty, Register, Shifted, ShiftBy, SaturateShift, Rotate, Count, Number, StatusMask}
use Rattle.insn.specs.declared.Operand.TheVariants.{StatusSource, WriteBack, List as RegisterList, Address, Memory, Option}
use Rattle.insn.specs.declared.Operand.TheVariants.{Coprocessor, CoprocessorRegister}
use Rattle.insn.specs.declared.Reg.{Reg}
use Rattle.insn.specs.declared.Shift.{Shift}
use Rattle.insn.specs.declared.Status.TheVariants.{Apsr, Spsr}
use Rattle.line_spelling.specs.Names.{masks, registers, shifts, barriers, coprocessors, co_registers, entry}
use Rattle.line_spelling.specs.Line.{register_text, shift_text, index_text, displacement_text, mode_text, memory_text, operand_text}
use Rattle.line_spelling.proofs.Cut.{all, all_cat, isnt, lacks, pieces, cut, uncut}
use Rattle.line_spelling.proofs.Digits.{first, decimal_all, signed_all, hex_all}
use Rattle.line_spelling.proofs.Formed.{Held, Indexed, Sound}
use Rattle.line_spelling.proofs.Tables.{every_passes, shift_few}

-- the bytes that cut a text or begin an operand, and those that do not
abbrev pub marks : List ℕ
marks = bytes " !#,:<@[]{}"

unfoldable pub plain : ℕ → Bool
plain b = lacks b marks

abbrev pub clean : List ℕ → Bool
clean = all plain

module _ (s : ℕ) (mark : T (not (lacks s marks))) where
  apart : (x : ℕ) → plain x ≡ true → not (eqb x s) ≡ true
  apart x h = unfold plain in
      by_test (eqb x s)
      (λ e. absurd (T_not (lacks s marks) mark (subst T (sym h ∙ ap plain (eqb-true x s e)) tt)))
      (λ e. rw e)

  pub clean_lacks : (xs : List ℕ) → clean xs ≡ true → lacks s xs ≡ true
  clean_lacks [] h = refl
  clean_lacks (x ∷ xs) h = rw (apart x (parts (plain x) (clean xs) h).0) (clean_lacks xs (parts (plain x) (clean xs) h).1)

  pub cut_clean : (a b : List ℕ) → clean a ≡ true → pieces s (a ++ s ∷ b) ≡ a ∷ pieces s b
  cut_clean a b h = cut s a b (clean_lacks a h)

  pub uncut_clean : (a : List ℕ) → clean a ≡ true → pieces s a ≡ a ∷ []
  uncut_clean a h = uncut s a (clean_lacks a h)

-- a text of plain bytes, one at least
abbrev pub is_word : List ℕ → Bool
is_word [] = false
is_word (x ∷ xs) = clean (x ∷ xs)

pub lead : (a b : List ℕ) → is_word a ≡ true → plain (first (a ++ b)) ≡ true
lead [] b h = absurd (subst (λ (x : Bool). T (not x)) h tt)
lead (x ∷ a) b h = (parts (plain x) (clean a) h).0

pub word_clean : (a : List ℕ) → is_word a ≡ true → clean a ≡ true
word_clean [] h = refl
word_clean (x ∷ a) h = h

pub register_word : (r : Reg) → r.0 < 16 → is_word (register_text r) ≡ true
register_word r h = unfold register_text plain in every_passes (λ n. is_word (entry registers n)) 16 tt r.0 h

pub shift_word : (kind : Shift) → is_word (shift_text kind) ≡ true
shift_word kind = unfold shift_text plain in every_passes (λ n. is_word (entry shifts n)) 4 tt (shift_number kind) (shift_few kind)

pub register_clean : (r : Reg) → r.0 < 16 → clean (register_text r) ≡ true
register_clean r h = word_clean (register_text r) (register_word r h)

pub shift_clean : (kind : Shift) → clean (shift_text kind) ≡ true
shift_clean kind = word_clean (shift_text kind) (shift_word kind)

pub decimal_clean : (n : ℕ) → clean (decimal_of n) ≡ true
decimal_clean n = unfold plain in decimal_all plain tt n

signed_clean : (z : ℤ) → clean (signed_of z) ≡ true
signed_clean z = unfold plain in signed_all plain tt z tt

hex_clean : (k n : ℕ) → clean (hex_of k n) ≡ true
hex_clean k n = unfold plain in hex_all plain tt k n

pub mode_clean : (mode : AddrMode) → clean (mode_text mode) ≡ true
unfolding mode_text plain
mode_clean Offset = refl
mode_clean PreIndex = refl
mode_clean PostIndex = refl

pub displacement_clean : (m : Mem) → clean (displacement_text m) ≡ true
displacement_clean m = unfold displacement_text plain in by_test m.minus_zero (λ e. rw e) (λ e. rw e (signed_clean m.disp))

pub index_lacks : (s : ℕ) → T (not (lacks s marks)) → T (isnt s (code "<")) → (x : Index) → Indexed x → lacks s (index_text x) ≡ true
unfolding index_text plain
index_lacks s mark other None h = clean_lacks s mark (bytes "-") refl
index_lacks s mark other (Some (r, n)) h =
    simp (
      all_cat,
      clean_lacks s mark (register_text r) (register_clean r h.0),
      passes (isnt s (code "<")) other,
      clean_lacks s mark (decimal_of n) (decimal_clean n),
    )

-- no operand holds a space
abbrev pub free : List ℕ → Bool
free = lacks (code " ")

clean_free : (xs : List ℕ) → clean xs ≡ true → free xs ≡ true
clean_free = clean_lacks (code " ") tt

register_free : (r : Reg) → r.0 < 16 → free (register_text r) ≡ true
register_free r h = clean_free (register_text r) (register_clean r h)

shift_free : (kind : Shift) → free (shift_text kind) ≡ true
shift_free kind = clean_free (shift_text kind) (shift_clean kind)

pub decimal_free : (n : ℕ) → free (decimal_of n) ≡ true
decimal_free n = clean_free (decimal_of n) (decimal_clean n)

memory_free : (name : ℕ) (m : Mem) → Held name m → free (memory_text m) ≡ true
memory_free name m h = unfold memory_text in
    simp (
      all_cat,
      register_free m.base h.base,
      index_lacks (code " ") tt tt m.index h.index,
      clean_free (displacement_text m) (displacement_clean m),
      clean_free (mode_text m.mode) (mode_clean m.mode),
      decimal_free m.size,
    )

pub operand_free : (last : Bool) (name : ℕ) (o : Operand) → Sound last name o → free (operand_text o) ≡ true
unfolding operand_text
operand_free last name Empty s = absurd s
operand_free last name (Register r) s = register_free r s
operand_free last name (Shifted r kind n) s = simp (all_cat, register_free r s.0, shift_free kind, decimal_free n)
operand_free last name (ShiftBy kind r) s = simp (all_cat, shift_free kind, register_free r s)
operand_free last name (SaturateShift kind n) s = simp (all_cat, shift_free kind, decimal_free n)
operand_free last name (Rotate n) s = decimal_free n
operand_free last name (Count z) s = clean_free (signed_of z) (signed_clean z)
operand_free last name (Number n) s = decimal_free n
operand_free last name (StatusMask n) s = every_passes (λ n. free (entry masks n)) 32 tt n s
operand_free last name (StatusSource Apsr) s = refl
operand_free last name (StatusSource Spsr) s = refl
operand_free last name (WriteBack r) s = simp (all_cat, register_free r s)
operand_free last name (RegisterList n) s = simp (all_cat, clean_free (hex_of 4 n) (hex_clean 4 n))
operand_free last name (Address n) s = clean_free (hex_of 8 n) (hex_clean 8 n)
operand_free last name (Memory m) s = memory_free name m s.1
operand_free last name (Option n) s = every_passes (λ n. free (entry barriers n)) 16 tt n s.1
operand_free last name (Coprocessor n) s = every_passes (λ n. free (entry coprocessors n)) 16 tt n s
operand_free last name (CoprocessorRegister n) s = every_passes (λ n. free (entry co_registers n)) 16 tt n s
