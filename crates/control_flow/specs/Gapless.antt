-- Instructions without gaps, and the last one of a section that begins before a place.
use Rattle.std.specs.Prelude.{◌≡◌, ◌+◌, ◌<◌, ◌≤◌, ◌↔◌, ◌==◌, ℕ, All, Contains, List, MatchOption, None, Option, Some, find, length}
use Rattle.ot_base.specs.declared.place.Place.{Place}
use Rattle.operation_defs.specs.declared.insn.Insn.{Insn}
use Rattle.x86_text.specs.declared.placed.PlacedInsn.{PlacedInsn}
use Rattle.x86_text.specs.Code.{Body, code_of, insn_listed, offsets_of, IsBoundary, IsPreviousBoundary, LeadsTo}
use Rattle.alternatives.specs.declared.texts.SectionText.{SectionText}

-- the instructions of a body begin at its boundaries, have a byte each at least, and fill it
pub record IsGapless (body : Body) : Type 0 where
  pub boundaries : (off : ℕ) → IsBoundary body off ↔ Contains (offsets_of body) off
  pub some : All (λ p. 0 < p.insn.len) (code_of body)
  pub whole : LeadsTo 0 (code_of body) (length body.bytes)

-- one of these instructions begins at an offset and ends at another
pub record EndsAt (code : List PlacedInsn) (off a : ℕ) : Type 0 where
  pub insn : Insn
  pub listed : insn_listed code a ≡ Some insn
  pub ends : a + insn.len ≡ off

-- in the text of the section of a place one that begins at an offset ends at the place
abbrev pub EndsThere : List SectionText → Place → ℕ → Type 0
EndsThere texts place a = (t : SectionText) → find (λ t. t.sec == place.sec) texts ≡ Some t → EndsAt (code_of t.text) place.off a

-- the last boundary of a body below an offset, if one is
abbrev pub IsLastBelow : Body → ℕ → Option ℕ → Type 0
IsLastBelow body off last = MatchOption last ((b : ℕ) → IsBoundary body b → off ≤ b) (IsPreviousBoundary body off)

-- the last boundary of the text of its section before a place, where that section has a text
abbrev pub IsLastBefore : List SectionText → Place → Option ℕ → Type 0
IsLastBefore texts place last = MatchOption (find (λ t. t.sec == place.sec) texts) (last ≡ None) (λ t. IsGapless t.text × IsLastBelow t.text place.off last)
