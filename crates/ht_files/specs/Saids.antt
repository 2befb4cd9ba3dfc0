-- What is said of each fault, by an engine or by verdicts.
use Rattle.std.specs.Prelude.{◌≡◌, ◌<◌, ℕ, List, length}
use Rattle.ht_net.specs.Circuit.Netlist.{Netlist}
use Rattle.ht_texts.specs.declared.said.Said.{Said}
use Rattle.ht_texts.specs.Verdicts.{said_at, IsSayable}
use Rattle.ht_valid.specs.ValidFiles.{IsOwn}
use Rattle.ht_verdicts.specs.Contents.{said_in}
use Rattle.ht_verdicts.specs.Standing.{VerdictsView}
use Rattle.ht_engine.specs.declared.step.Step.{Step}
use Rattle.ht_engine.specs.EngineStands.{EngineView, EngineStandsFor, IsSaid}

-- Something for each of the first n faults: this is so of each representative among them and of
-- what is said of it.
pub record AreSaidAs (IsSo : ℕ → Said → Type 0) (c : Netlist) (representatives : List ℕ) (n : ℕ)
    (saids : List Said) : Type 0 where
  pub each : length saids ≡ n
  pub says : (i : ℕ) → i < n → IsOwn c representatives i → IsSo i (said_at saids i)

-- The engine says it of fault i, whatever steps it stands for, and it may be said.
pub record Says (e : EngineView) (i : ℕ) (said : Said) : Type 0 where
  pub by_steps : (steps : List Step) → EngineStandsFor e steps
      → IsSaid e.circuit e.settings.start steps i said
  pub sayable : IsSayable e.circuit said

-- of the representatives among the first n faults what the engine says
abbrev pub AreSaid : EngineView → ℕ → List Said → Type 0
AreSaid e = AreSaidAs (Says e) e.circuit e.representatives

-- The verdicts say it of fault i, and it may be said.
pub record IsSaidIn (v : VerdictsView) (i : ℕ) (said : Said) : Type 0 where
  pub is : said ≡ said_in v i
  pub sayable : IsSayable v.circuit said

-- of the representatives among the first n faults what the verdicts say
abbrev pub AreSaidIn : VerdictsView → ℕ → List Said → Type 0
AreSaidIn v = AreSaidAs (IsSaidIn v) v.circuit v.representatives
