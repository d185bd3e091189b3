-- The routes by their numbers: none is over the largest.
use Prim.Native.Nat.{◌≤◌}
use native.Mathlib.Omega.{arith}
use Rattle.judge.specs.Route.{route_number}
use Rattle.judge.specs.Routes.{largest_route}
use Rattle.judge.specs.declared.route.Route.{Route}
use Rattle.judge.specs.declared.route.Route.TheVariants.{Tasks, Events, Fewer}

pub route_within : (route : Route) → route_number route ≤ largest_route
route_within Tasks = omega arith
route_within Events = omega arith
route_within Fewer = omega arith
