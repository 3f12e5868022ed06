-- The states of keys.
use Rattle.std.specs.Prelude.{List, map}
use Rattle.state_defs.specs.declared.state.State.{State}
use Rattle.state_pool.specs.declared.key.Key.{Key}

abbrev pub states_of : List Key → List State
states_of keys = map (λ key. key.0) keys
