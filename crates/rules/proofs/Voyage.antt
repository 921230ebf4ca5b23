-- The starred cases of document 01 hold, and the further figures, computed by antt from the definitions. Assumes nothing.
use lib.Dec.{T}
use mathlib.Core.Bool.{◌&&◌}
use Rattle.ways.specs.Ways.{walk}
use Rattle.rules.specs.Store.{units, held_units, frees, prune}
use Rattle.rules.specs.Steps.{extended, fresh, fit, decide, change, step}
use Rattle.rules.specs.Images.{image}
use Rattle.rules.specs.Loads.{leading, cut, built, laid, claims, owned_once, named, shallow, countable, all_held, counts_agree, judge, load}
use Rattle.rules.specs.Query.{query}
use Rattle.rules.specs.Voyage.{runs, from, cases, case10, starred_cases}
use Rattle.rules.specs.Figures.{offsets_move, lines_in_order, chain_counts, queries_answer, images_judged}

pub starred : T starred_cases
unfolding walk units held_units frees prune extended fresh fit decide change step image leading cut built laid claims owned_once named shallow countable all_held counts_agree judge load runs from cases case10 starred_cases
starred = tt

pub figures : T (offsets_move && lines_in_order && chain_counts && queries_answer)
unfolding walk units held_units frees prune extended fresh fit decide change step query runs offsets_move lines_in_order chain_counts queries_answer
figures = tt

pub judged : T images_judged
unfolding walk units image leading cut built laid claims owned_once named shallow countable all_held counts_agree judge load images_judged
judged = tt
