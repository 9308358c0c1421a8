-- The flow of what a page reads is that of its title: one law over a list of pages. Assumes nothing.
use Rattle.std.proofs.Common.{◌≡◌, refl, sym, ap, ◌∙◌, subst, Bool, true, false, List, [], ◌∷◌, map, ℕ, T}
use Rattle.word.specs.Refusal.{refused_with}
use Prim.Native.String.{String}
use lib.Text.{eqt, eqt→eq}
use Rattle.word.specs.Choice.{pick, by_test}
use Rattle.insn.specs.Answer.{Decoded, insn_in}
use Rattle.encode_home.proofs.Leads.{refusal}
use Rattle.manual.specs.A8.{Said, reads, beyond, names, unlisted, undefined, unpredictable, is_among, Page, pages, said_among, said_of}
use Rattle.manual.specs.Departures.{answered, port_loads}
use Rattle.manual.specs.Reads.{writes_pc}
use Rattle.manual.specs.Stands.{Agrees}
use Rattle.manual.proofs.Fields.{pick_same, no_true}
use Rattle.manual_flows.specs.Flows.{Control, goes, control_as}

-- how control goes by what is read, and as c where nothing is
abbrev pub read_by : Said → Control → Control
read_by (reads d) c = goes (insn_in d).flow
read_by (beyond s) c = c
read_by (names s) c = c
read_by unlisted c = c
read_by undefined c = c
read_by unpredictable c = c

read_either : (b : Bool) (x y : Said) (c : Control) → read_by (pick b x y) c ≡ pick b (read_by x c) (read_by y c)
read_either true x y c = refl
read_either false x y c = refl

-- two lists that are one have one first and one rest
abbrev first : Control → List Control → Control
first c [] = c
first c (d ∷ ds) = d

abbrev rest : List Control → List Control
rest [] = []
rest (d ∷ ds) = ds

-- what is alike at every title of a list
module _ (f g : String → Control) (row : String) where
  pub same_at : (titles : List String) → map f titles ≡ map g titles → is_among row titles ≡ true → f row ≡ g row
  same_at [] all is = absurd (no_true (sym is))
  same_at (t ∷ ts) all is =
      by_test (eqt row t)
      (λ e. subst (λ (x : String). f x ≡ g x) (sym (eqt→eq row t (subst T (sym e) tt))) (ap (first (f t)) all))
      (λ e. same_at ts (ap rest all) (simp e at is))

-- every page of a list reads what g says of its title
module _ (g : String → Control) where
  abbrev read : List Page → List Control
  read [] = []
  read (p ∷ ps) = read_by p.said (g p.title) ∷ read ps

  abbrev said : List Page → List Control
  said [] = []
  said (p ∷ ps) = g p.title ∷ said ps

  pub among : (title : String) (ps : List Page) → read ps ≡ said ps → read_by (said_among title ps) (g title) ≡ g title
  among title [] all = simp (read_either, pick_same)
  among title (p ∷ ps) all =
      by_test (eqt title p.title)
      (λ e. rw e (subst (λ (t : String). read_by p.said (g t) ≡ g t) (sym (eqt→eq title p.title (subst T (sym e) tt)))
      (ap (first (g title)) all)))
      (λ e. rw e (among title ps (ap rest all)))

-- the titles of load-15
abbrev pub loads : List String
loads = "LDRB (immediate, ARM)" ∷ "LDRB (literal)" ∷ "LDRB (register)" ∷ "LDRT" ∷ "LDRBT" ∷ []

module _ (w addr : ℕ) where
  pub page_goes : (title : String) → read_by (said_of w addr title) (control_as w addr title) ≡ control_as w addr title
  page_goes title = unfold said_of in among (control_as w addr) title (pages w addr) (unfold control_as in simp (read_either, pick_same))

  -- where the decoder reads a load in its own way
  abbrev pub port_control : String → Control
  port_control title = pick (is_among title loads) (goes (writes_pc w)) (control_as w addr title)

  pub port_goes : (title : String) → read_by (said_among title (port_loads w addr)) (port_control title) ≡ port_control title
  port_goes title = among port_control title (port_loads w addr) (unfold control_as in simp (read_either, pick_same))

-- an answer that is accepted is what is read
pub answered_so : (s : Said) (c : Control) → refused_with (answered s) ≡ 0 → goes (insn_in (answered s)).flow ≡ read_by s c
answered_so (reads d) c ok = refl
answered_so (beyond s) c ok = refusal ok
answered_so (names s) c ok = refusal ok
answered_so unlisted c ok = refusal ok
answered_so undefined c ok = refusal ok
answered_so unpredictable c ok = refusal ok

pub agreed_so : (d : Decoded) (s : Said) (c : Control) → Agrees s d → refused_with d ≡ 0 → goes (insn_in d).flow ≡ read_by s c
agreed_so d (reads a) c h ok = ap (λ (d : Decoded). goes (insn_in d).flow) h
agreed_so d (beyond s) c h ok = absurd h
agreed_so d (names s) c h ok = refusal (sym (ap (λ (d : Decoded). refused_with d) h) ∙ ok)
agreed_so d unlisted c h ok = absurd h
agreed_so d undefined c h ok = refusal (sym (ap (λ (d : Decoded). refused_with d) h) ∙ ok)
agreed_so d unpredictable c h ok = refusal (sym (ap (λ (d : Decoded). refused_with d) h) ∙ ok)
