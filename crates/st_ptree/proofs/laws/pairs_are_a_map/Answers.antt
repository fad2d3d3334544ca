use Rattle.st_ptree.proofs.Pairs.{found-pairs_of, is_ordered-pairs_of, pairs_of-where_key, pairs_of-with_entry}
use Rattle.st_ptree.proofs.laws.pairs_are_a_map.Goals as goal

pub returns : goal.returns
returns g c = record {
  found = found-pairs_of;
  put = pairs_of-with_entry;
  kept = pairs_of-where_key;
  ordered = is_ordered-pairs_of;
}
