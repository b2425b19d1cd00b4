-- `definitions` promises the worked cases.
use Rattle.truss.proofs.Cases.{cases, rule_cases, window_cases, field_cases}
use Rattle.truss.proofs.StrengthCases.{strength_cases}
use Rattle.truss.proofs.ChainCases.{chain_cases}
use Rattle.truss.proofs.OrderCases.{order_cases}
use Rattle.truss.proofs.LoneCases.{lone_cases}
use Rattle.truss.proofs.WholeCalls.{whole_calls}
use Rattle.truss.proofs.DeskCases.{desk_cases}
use Rattle.truss.proofs.ChangeCases.{change_cases}
use Rattle.truss.proofs.BetsCases.{bets_cases}
use Rattle.truss.proofs.Figures.{figures}
use Rattle.truss.proofs.Spelled.{spelled}
use Rattle.truss.proofs.definitions.Goals as goal

pub returns : goal.returns
returns c = (cases, rule_cases, window_cases, field_cases, strength_cases, chain_cases, order_cases, lone_cases, whole_calls, desk_cases, change_cases, bets_cases, figures, spelled)
