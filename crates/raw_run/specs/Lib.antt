pub mod RawScript
