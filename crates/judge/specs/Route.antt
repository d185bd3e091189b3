-- The routes by their numbers: "Task route (0)", "Event route (1)", and document 02's "third route, 2".
use Rattle.std.specs.Prelude.{◌≡◌, ◌<◌, ℕ, Result, Ok, Err}
use Rattle.answers.specs.declared.Refusal.{Refusal}
use Rattle.answers.specs.declared.Refusal.TheVariants.{NoRoute}
use Rattle.judge.specs.Routes.{largest_route}
use Rattle.judge.specs.declared.route.Route.{Route}
use Rattle.judge.specs.declared.route.Route.TheVariants.{Tasks, Events, Fewer}

abbrev pub route_number : Route → ℕ
route_number Tasks = 0
route_number Events = 1
route_number Fewer = 2

-- the route that has the number, or 41 "for routes over 2"
abbrev pub RouteOf : ℕ → Result Route Refusal → Type 0
RouteOf n (Ok route) = route_number route ≡ n
RouteOf n (Err r) = (r ≡ NoRoute) × (largest_route < n)
