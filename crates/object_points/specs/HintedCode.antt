-- An object with its RESTOREs.
use Rattle.std.specs.Prelude.{ℕ, List}
use Rattle.flow_defs.specs.Coded.{Coded}
use Rattle.object_points.specs.Hinted.{AreSaves}
use Rattle.object_points.specs.Meanings.{AreMeanings}
use Rattle.object_points.specs.declared.meanings.Meaning.{Meaning}
use Rattle.object_points.specs.declared.saves.SavePoint.{SavePoint}

-- an object, and the numbers of its RESTOREs that mean a SAVE, those of one SAVE one after another
pub record HintedCode : Type 0 where
  pub object : Coded
  pub restores : List ℕ

-- what is kept of an object: its SAVEs, and what its RESTOREs mean
pub record AreKept (o : Coded) (saves : List SavePoint) (meanings : List Meaning) (restores : List ℕ) : Type 0 where
  pub all_saves : AreSaves o saves
  pub all_meanings : AreMeanings o meanings restores
