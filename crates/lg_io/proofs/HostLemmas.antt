-- What a source gives up to a limit that it does not reach.
use Rattle.std.proofs.Common.{ℕ, ◌≡◌, ◌<◌, ◌≤◌, List, [], ◌++◌, length, take, Option, Some, None, option_map, IfSome, arith, ap}
use Rattle.std.proofs.lemmas.List.{length-take, take_all}

-- where fewer bytes came than the limit allows, they are all that the source had
pub whole_below-limit
    : (known : Option (List ℕ)) (bytes : List ℕ) (limit : ℕ)
    → IfSome (option_map (take limit) known) (λ content. bytes ≡ [] ++ content)
    → length bytes < limit
    → IfSome known (λ content. Some content ≡ Some bytes)
whole_below-limit None bytes limit given below = tt
whole_below-limit (Some content) bytes limit given below =
    let short : length content ≤ limit = omega (arith, ap length given, length-take limit content) in
    ap (λ xs. Some xs) (rw (given, take_all limit content short))
