pub mod ByDeviceLaws
