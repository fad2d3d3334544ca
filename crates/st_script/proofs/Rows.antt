-- Scripts read by the definitions alone.
use Rattle.std.proofs.Common.{◌≡◌, [], ◌∷◌, refl, codes, Ok, Err}
use Rattle.std.specs.Prelude.{None, Some, pos, negsuc, true, false}
use Rattle.hex.proofs.OnLiterals.{hex_on_literals}
use Rattle.st_atomic.specs.declared.AtomicOp.TheVariants.{Add, CompareAndClear}
use Rattle.st_mutation.specs.declared.batch.Mutation.TheVariants.{Set, Clear, Atomic}
use Rattle.st_fold.specs.declared.plan.Act.TheVariants.{Apply, Began, Durable}
use Rattle.st_fold.specs.declared.plan.Do.TheVariants as step
use Rattle.st_fold.specs.declared.plan.Kind.TheVariants as kind
use Rattle.st_fold.specs.declared.request.Ask.TheVariants.{Get, Rows, Select}
use Rattle.st_script.specs.Draft.{all_keys}
use Rattle.st_script.specs.Options.{default_settings}
use Rattle.st_script.specs.Reading.{script_of}

clears_and_selectors : script_of (codes "storage 1\nown - ff\nlog\nbatch 1\nset 61 31\nset 62 32\nset 63 33\nbatch 2\nclear 61 63\nbatch 3\nset 62 39\nlife 3\nask 1 get 61 @2\nask 1 range - ff 1 1000 rev @3\nask 1 key 61 eq 1 - ff @3\nask 1 key 62 ne 0 - ff @3\nask 1 key 63 eq -1 - ff @3\nlast get 63 @3\ndo apply 3\nclose\nend\n") ≡ Ok (record {
  settings = default_settings;
  own = all_keys ∷ [];
  log =
      record { version = 1; moves = []; mutations = Set (97 ∷ []) (49 ∷ []) ∷ Set (98 ∷ []) (50 ∷ []) ∷ Set (99 ∷ []) (51 ∷ []) ∷ [] }
      ∷ record { version = 2; moves = []; mutations = Clear (record { begin = 97 ∷ []; end = 99 ∷ [] }) ∷ [] }
      ∷ record { version = 3; moves = []; mutations = Set (98 ∷ []) (57 ∷ []) ∷ [] } ∷ [];
  lives = record {
    upto = 3;
    asks =
        record { number = 1; reader = 1; ask = Get (97 ∷ []) 2 }
        ∷ record { number = 2; reader = 1; ask = Rows all_keys 1 1000 true 3 }
        ∷ record { number = 3; reader = 1; ask = Select (97 ∷ []) true (pos 1) all_keys 3 }
        ∷ record { number = 4; reader = 1; ask = Select (98 ∷ []) false (pos 0) all_keys 3 }
        ∷ record { number = 5; reader = 1; ask = Select (99 ∷ []) true (negsuc 0) all_keys 3 } ∷ [];
    lasts = record { number = 6; reader = 0; ask = Get (99 ∷ []) 3 } ∷ [];
    dos = (step.Act Apply, 3) ∷ [];
    cuts = [];
    peerfails = [];
    kill = None;
  } ∷ [];
})
unfolding hex_on_literals
clears_and_selectors = refl

patient : script_of (codes "storage 1\npatience 5\nown - ff\nlog\nbatch 1\nadd 61 01\ncompare_and_clear 61 -\nlife 1\nclose\nend") ≡ Ok (record {
  settings = record default_settings { patience = 5 };
  own = all_keys ∷ [];
  log = record { version = 1; moves = []; mutations = Atomic Add (97 ∷ []) (1 ∷ []) ∷ Atomic CompareAndClear (97 ∷ []) [] ∷ [] } ∷ [];
  lives = record {
    upto = 1;
    asks = [];
    lasts = [];
    dos = [];
    cuts = [];
    peerfails = [];
    kill = None;
  } ∷ [];
})
unfolding hex_on_literals
patient = refl

first_get : script_of (codes "storage 1\nown - ff\nlog\nbatch 1\nset 61 31\nlife 1\nask 1 get 61 @1\ndo apply\ndo poll 1\nclose\nend\n") ≡ Ok (record {
  settings = default_settings;
  own = all_keys ∷ [];
  log = record { version = 1; moves = []; mutations = Set (97 ∷ []) (49 ∷ []) ∷ [] } ∷ [];
  lives = record {
    upto = 1;
    asks = record { number = 1; reader = 1; ask = Get (97 ∷ []) 1 } ∷ [];
    lasts = [];
    dos = (step.Act Apply, 1) ∷ (step.Poll 1, 1) ∷ [];
    cuts = [];
    peerfails = [];
    kill = None;
  } ∷ [];
})
unfolding hex_on_literals
first_get = refl

-- every option, in another order, with the least and the greatest numbers of some
options_set : script_of (codes "storage 1\nquota 1\nlimit 268435456\nown - ff\nswap 64\nseed 18446744073709551615\npatience 1000\nwindow 4611686018427387904\nlog\nlife 0\nclose\nend\n") ≡ Ok (record {
  settings = record {
    window = 4611686018427387904;
    patience = 1000;
    seed = 18446744073709551615;
    swap = 64;
    limit = 268435456;
    quota = 1;
    block = 100;
    watches = 10000;
  };
  own = all_keys ∷ [];
  log = [];
  lives = record {
    upto = 0;
    asks = [];
    lasts = [];
    dos = [];
    cuts = [];
    peerfails = [];
    kill = None;
  } ∷ [];
})
unfolding hex_on_literals
options_set = refl

-- requests are numbered over all lives
killed_and_closed : script_of (codes "storage 1\nseed 7\nown - ff\nlog\nbatch 9223372036854775807\nset 61 31\nlife 2\nask 1 get 61 @1\ndo began\ndo durable 2\ndo flush 3\nkill 5 6\nlife 2\nlast get 61 @2\ndo apply\nclose\nend\n") ≡ Ok (record {
  settings = record default_settings { seed = 7 };
  own = all_keys ∷ [];
  log = record { version = 9223372036854775807; moves = []; mutations = Set (97 ∷ []) (49 ∷ []) ∷ [] } ∷ [];
  lives =
      record {
        upto = 2;
        asks = record { number = 1; reader = 1; ask = Get (97 ∷ []) 1 } ∷ [];
        lasts = [];
        dos = (step.Act Began, 1) ∷ (step.Act Durable, 2) ∷ (step.Flush, 3) ∷ [];
        cuts = [];
        peerfails = [];
        kill = Some (5, 6);
      }
      ∷ record {
        upto = 2;
        asks = [];
        lasts = record { number = 2; reader = 0; ask = Get (97 ∷ []) 2 } ∷ [];
        dos = (step.Act Apply, 1) ∷ [];
        cuts = [];
        peerfails = [];
        kill = None;
      } ∷ [];
})
unfolding hex_on_literals
killed_and_closed = refl

head_fault : script_of (codes "storage 2") ≡ Err (1, kind.Head)
head_fault = refl

end_fault : script_of (codes "storage 1\nown - ff\nlog") ≡ Err (4, kind.End)
unfolding hex_on_literals
end_fault = refl

-- without `own` a log isn't played yet
log_fault : script_of (codes "storage 1\nlog\nbatch 1\nclear 62 61") ≡ Err (2, kind.Unbuilt)
log_fault = refl

version_fault : script_of (codes "storage 1\nown - ff\nlog\nbatch 1\nbatch 1") ≡ Err (5, kind.Version)
version_fault = refl

hex_fault : script_of (codes "storage 1\nown - ff\nlog\nbatch 1\nset 6 31") ≡ Err (5, kind.Hex)
unfolding hex_on_literals
hex_fault = refl

key_fault : script_of (codes "storage 1\nown - ff\nlog\nbatch 1\nset ff 3") ≡ Err (5, kind.Key)
unfolding hex_on_literals
key_fault = refl

-- an unknown word is told before a number out of its bounds that stands left of it
word_fault : script_of (codes "storage 1\nown - ff\nlog\nlife 1\nask 65 put 61 @1") ≡ Err (5, kind.Word)
word_fault = refl

order_fault : script_of (codes "storage 1\nown - ff\nlog\nset 61 31") ≡ Err (4, kind.Order)
order_fault = refl

range_fault : script_of (codes "storage 1\nown - ff\nlog\nbatch 1\nclear 62 61") ≡ Err (5, kind.Range)
unfolding hex_on_literals
range_fault = refl

-- a number out of its bounds is told before a range without a key that stands left of it
rows_fault : script_of (codes "storage 1\nown - ff\nlog\nlife 1\nask 1 range 62 61 0 1 fwd @1") ≡ Err (5, kind.Number)
unfolding hex_on_literals
rows_fault = refl

offset_fault : script_of (codes "storage 1\nown - ff\nlog\nlife 1\nask 1 key 61 eq -1001 - ff @1") ≡ Err (5, kind.Number)
unfolding hex_on_literals
offset_fault = refl

-- a selector's key is below ff, and inside its range or at its end
selector_fault : script_of (codes "storage 1\nown - ff\nlog\nlife 1\nask 1 key 64 eq 0 62 63 @1") ≡ Err (5, kind.Range)
unfolding hex_on_literals
selector_fault = refl

selector_key_fault : script_of (codes "storage 1\nown - ff\nlog\nlife 1\nlast key ff eq 0 - ff @1") ≡ Err (5, kind.Key)
unfolding hex_on_literals
selector_key_fault = refl

-- no watch is answered at the end of a life
last_fault : script_of (codes "storage 1\nown - ff\nlog\nlife 1\nlast watch 61 none") ≡ Err (5, kind.Word)
last_fault = refl

watch_fault : script_of (codes "storage 1\nown - ff\nlog\nlife 1\nask 1 watch 61 none") ≡ Err (5, kind.Unbuilt)
watch_fault = refl

-- an option for the second time
option_fault : script_of (codes "storage 1\npatience 5\npatience 0") ≡ Err (3, kind.Order)
option_fault = refl

window_fault : script_of (codes "storage 1\nwindow 4611686018427387905") ≡ Err (2, kind.Number)
window_fault = refl

block_fault : script_of (codes "storage 1\nblock 100") ≡ Err (2, kind.Unbuilt)
block_fault = refl

-- a life doesn't go less far than the one before it
life_fault : script_of (codes "storage 1\nown - ff\nlog\nlife 2\nclose\nlife 1") ≡ Err (6, kind.Version)
life_fault = refl

-- a life whose end is asked about isn't killed, whatever the words are
kill_fault : script_of (codes "storage 1\nown - ff\nlog\nlife 1\nlast get 61 @1\nkill") ≡ Err (6, kind.Order)
unfolding hex_on_literals
kill_fault = refl

start_fault : script_of (codes "storage 1\nown - ff\nlog\nlife 1\ndo start") ≡ Err (5, kind.Unbuilt)
start_fault = refl

-- comments, blank lines, doubled spaces, leading zeros, hex of either case, and no LF at the end
spaced : script_of (codes "# a script\n\n  storage   1 \nown - FF\n # its log\nlog\nbatch 007\nset 6A  -\nlife 7\nclose\nend") ≡ Ok (record {
  settings = default_settings;
  own = all_keys ∷ [];
  log = record { version = 7; moves = []; mutations = Set (106 ∷ []) [] ∷ [] } ∷ [];
  lives = record {
    upto = 7;
    asks = [];
    lasts = [];
    dos = [];
    cuts = [];
    peerfails = [];
    kill = None;
  } ∷ [];
})
unfolding hex_on_literals
spaced = refl
