-- What is read of IN and the names file where their content is known, and that nothing refuses them where they are in order.
use Rattle.std.proofs.Common.{◌≡◌, ℕ, List, sym, ap, ◌∙◌, subst}
use Rattle.std.specs.Prelude.{Option, Some, None, Ok}
use Rattle.ot_base.specs.NameLists.{NameLists, lists_with}
use Rattle.ot_base.specs.NamesFile.{IsNamesFile}
use Rattle.ot_files.specs.Content.{Content, reading}
use Rattle.elf_objects.specs.declared.TheConstants.{MAX_FILE_BYTES}
use Rattle.command_base.specs.Names.{HasNames, StopsAtNames}
use Rattle.command_base.specs.Outside.{Outside}
use Rattle.command_base.specs.Reading.{MayRead}
use Rattle.command_base.specs.Stop.{status_of}
use Rattle.command_base.specs.declared.status.Status.TheVariants.{Refused}
use Rattle.command_base.specs.declared.stop.CommandStop.{CommandStop}
use Rattle.command_base.specs.declared.stop.CommandStop.TheVariants as stop
use Rattle.command_base.proofs.Stops.{given_names, is_read, no_faulty_line, of_names, one_text, readable}
use Rattle.command_base.specs.Inputs.{IsRead, RefusesInput, input_refused, input_unread, list_faulty, list_unread}

-- ---- what is read

pub one_names : (held : Content) (names : Option (List ℕ)) (one other : NameLists) → HasNames (Some held) names one → HasNames (Some held) names other → one ≡ other
one_names held None one other h k = h ∙ sym k
one_names held (Some file) one other h k = h.are ∙ ap lists_with (one_text MAX_FILE_BYTES held file h.text k.text (sym h.may) (sym k.may)) ∙ sym k.are

pub named_in : (names : Option (List ℕ)) (held : Content) (content : Option Content) (lists : NameLists) → content ≡ Some held → HasNames content names lists → HasNames (Some held) names lists
named_in names held content lists c h = subst (λ (k : Option Content). HasNames k names lists) c h

-- what is known of a run: what IN and the names file hold
pub record IsKnown (before : Outside) (input : List ℕ) (names : Option (List ℕ)) (read : List ℕ) (lists : NameLists) : Type 0 where
  pub held : Content
  pub told : before.content ≡ Some held
  pub is : reading held input MAX_FILE_BYTES ≡ Ok read
  pub named : HasNames (Some held) names lists

-- other bytes and lists that it may have read are these
pub one_reading : (P : List ℕ → NameLists → Type 0) (before : Outside) (input : List ℕ) (names : Option (List ℕ)) (read other : List ℕ) (lists others : NameLists) → IsKnown before input names read lists → IsRead before.content input names other others → P other others → P read lists
one_reading P before input names read other lists others known was h =
    let bytes = one_text MAX_FILE_BYTES known.held input other read (is_read MAX_FILE_BYTES input other known.held before.content known.told was.may) known.is in
    let named = one_names known.held names others lists (named_in names known.held before.content others known.told was.named) known.named in
    subst (λ (l : NameLists). P read l) named (subst (λ (b : List ℕ). P b others) bytes h)

-- ---- what is refused

-- a refusal at the names file is one of the command
pub names_refuse : (Stops : List ℕ → NameLists → CommandStop → Type 0) (s : CommandStop) (input : List ℕ) (names : Option (List ℕ)) (held : Content) (read : List ℕ) (before after : Outside) → before.content ≡ Some held → MayRead MAX_FILE_BYTES before.content input (Ok read) → StopsAtNames names before after s → status_of s ≡ Refused → RefusesInput Stops input names held s
names_refuse Stops s input names held read before after c may h e =
    let is = is_read MAX_FILE_BYTES input read held before.content c may in
    of_names (RefusesInput Stops input names held) s names held before after c (λ file given gone. list_unread read file is given gone) (λ file text line why given said fault. list_faulty read file text is given said fault) h e

-- no step refuses bytes that only want of memory stops
pub unrefused : (Stops : List ℕ → NameLists → CommandStop → Type 0) (s : CommandStop) (input : List ℕ) (names : Option (List ℕ)) (held : Content) (read : List ℕ) (lists : NameLists) → reading held input MAX_FILE_BYTES ≡ Ok read → HasNames (Some held) names lists → ((t : CommandStop) → Stops read lists t → t ≡ stop.NoMemory) → RefusesInput Stops input names held s → ⊥
unrefused Stops s input names held read lists is has never (input_unread h) = readable MAX_FILE_BYTES s held input read h is
unrefused Stops s input names held read lists is has never (list_unread other file was given h) =
    let names_are = given_names held names file lists given has in
    readable MAX_FILE_BYTES s held file names_are.text h (sym names_are.may)
unrefused Stops s input names held read lists is has never (list_faulty other file text was given said fault) =
    let names_are = given_names held names file lists given has in
    no_faulty_line text _ _ (subst IsNamesFile (one_text MAX_FILE_BYTES held file names_are.text text (sym names_are.may) said) names_are.right) fault
unrefused Stops s input names held read lists is has never (input_refused other others was had h some) =
    let bytes = one_text MAX_FILE_BYTES held input other read was is in
    let named = one_names held names others lists had has in
    some (never s (subst (λ (l : NameLists). Stops read l s) named (subst (λ (b : List ℕ). Stops b others s) bytes h)))
