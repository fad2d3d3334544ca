-- The options of a script, within which bounds each lies, and what stands where none is set.
use Rattle.std.specs.Prelude.{◌≡◌, ◌≤◌, ◌<◌, ◌^◌, ℕ, Option, Some, None}
use Rattle.std.specs.Option.{unwrap_or}
use Rattle.st_fold.specs.declared.plan.Settings.{Settings}
use Rattle.st_script.specs.declared.options.Chosen.{Chosen}
use Rattle.st_script.specs.declared.options.Setting.{Setting}
use Rattle.st_script.specs.declared.options.Setting.TheVariants as setting

-- where no script says something else
abbrev pub default_settings : Settings
default_settings = record {
  window = 5000000;
  patience = 3;
  seed = 1;
  swap = 1048576;
  limit = 268435456;
  quota = 4096;
  block = 100;
  watches = 10000;
}

-- the least number that an option sets
abbrev pub least_of : Setting → ℕ
least_of setting.Window = 1
least_of setting.Patience = 1
least_of setting.Seed = 0
least_of setting.Swap = 64
least_of setting.Limit = 64
least_of setting.Quota = 1

-- the greatest one
abbrev pub most_of : Setting → ℕ
most_of setting.Window = 4611686018427387904
most_of setting.Patience = 1000
most_of setting.Seed = 18446744073709551615
most_of setting.Swap = 268435456
most_of setting.Limit = 268435456
most_of setting.Quota = 1048576

-- no option is set
abbrev pub none_chosen : Chosen
none_chosen = record { window = None; patience = None; seed = None; swap = None; limit = None; quota = None }

-- the number that an option was set to
abbrev pub chosen_of : Setting → Chosen → Option ℕ
chosen_of setting.Window chosen = chosen.window
chosen_of setting.Patience chosen = chosen.patience
chosen_of setting.Seed chosen = chosen.seed
chosen_of setting.Swap chosen = chosen.swap
chosen_of setting.Limit chosen = chosen.limit
chosen_of setting.Quota chosen = chosen.quota

-- an option is set to this number
abbrev pub choose : Setting → ℕ → Chosen → Chosen
choose setting.Window number chosen = record chosen { window = Some number }
choose setting.Patience number chosen = record chosen { patience = Some number }
choose setting.Seed number chosen = record chosen { seed = Some number }
choose setting.Swap number chosen = record chosen { swap = Some number }
choose setting.Limit number chosen = record chosen { limit = Some number }
choose setting.Quota number chosen = record chosen { quota = Some number }

-- the settings: what was set, and the defaults of the others. No script sets `block` and `watches` yet
abbrev pub settings_of : Chosen → Settings
settings_of chosen = record {
  window = unwrap_or chosen.window default_settings.window;
  patience = unwrap_or chosen.patience default_settings.patience;
  seed = unwrap_or chosen.seed default_settings.seed;
  swap = unwrap_or chosen.swap default_settings.swap;
  limit = unwrap_or chosen.limit default_settings.limit;
  quota = unwrap_or chosen.quota default_settings.quota;
  block = default_settings.block;
  watches = default_settings.watches;
}

-- each option lies within its bounds, and `block` and `watches` are as no script sets them
pub record IsBounded (settings : Settings) : Type 0 where
  pub least_window : 1 ≤ settings.window
  pub most_window : settings.window ≤ 2 ^ 62
  pub least_patience : 1 ≤ settings.patience
  pub most_patience : settings.patience ≤ 1000
  pub seed : settings.seed < 2 ^ 64
  pub least_swap : 64 ≤ settings.swap
  pub most_swap : settings.swap ≤ 268435456
  pub least_limit : 64 ≤ settings.limit
  pub most_limit : settings.limit ≤ 268435456
  pub least_quota : 1 ≤ settings.quota
  pub most_quota : settings.quota ≤ 1048576
  pub block : settings.block ≡ 100
  pub watches : settings.watches ≡ 10000
