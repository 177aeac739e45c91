pub mod ConsoleLaws
